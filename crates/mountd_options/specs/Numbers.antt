-- The numbers that options take.
use Rattle.std.specs.Prelude.{◌≡◌, ◌≤◌, ◌⊎◌, ◌^◌, ◌-◌, ℕ, Option, Some, None, codes, decimal}
use Rattle.clap.specs.Words.{Text}
use Rattle.mountd_options.specs.declared.numbers.NumberOption.{NumberOption}
use Rattle.mountd_options.specs.declared.numbers.NumberOption.TheVariants.{History, CacheEntries, CacheBytes, Port, Sessions, Fetchers, Threads, Since}

abbrev pub number_name : NumberOption → Text
number_name History = codes "history"
number_name CacheEntries = codes "cache-entries"
number_name CacheBytes = codes "cache-bytes"
number_name Port = codes "port"
number_name Sessions = codes "sessions"
number_name Fetchers = codes "fetchers"
number_name Threads = codes "threads"
number_name Since = codes "since"

-- the least that each takes
abbrev pub least_of : NumberOption → ℕ
least_of History = 1
least_of CacheEntries = 1
least_of CacheBytes = 1
least_of Port = 0
least_of Sessions = 1
least_of Fetchers = 1
least_of Threads = 1
least_of Since = 0

-- .. and the greatest
abbrev pub most_of : NumberOption → ℕ
most_of History = 2 ^ 32 - 1
most_of CacheEntries = 65536
most_of CacheBytes = 2 ^ 40
most_of Port = 65535
most_of Sessions = 64
most_of Fetchers = 16
most_of Threads = 63
most_of Since = 2 ^ 40

-- the text is this number, within these bounds
abbrev pub IsWithin : ℕ → ℕ → Text → ℕ → Type 0
IsWithin least most text n = (text ≡ decimal n) × (least ≤ n) × (n ≤ most)

abbrev pub NoneWithin : ℕ → ℕ → Text → Type 0
NoneWithin least most text = (n : ℕ) → IsWithin least most text n → ⊥

-- the text is this number, which the option takes
abbrev pub NamesNumber : NumberOption → Text → ℕ → Type 0
NamesNumber option text n = IsWithin (least_of option) (most_of option) text n

abbrev pub IsNoNumber : NumberOption → Text → Type 0
IsNoNumber option text = (n : ℕ) → NamesNumber option text n → ⊥

-- the text stands for no number, as that of the history may
abbrev pub SaysNone : NumberOption → Text → Type 0
SaysNone option text = (option ≡ History) × (text ≡ codes "none")

-- the option doesn't take the text
abbrev pub IsNoValue : NumberOption → Text → Type 0
IsNoValue option text = IsNoNumber option text × (¬ SaysNone option text)

-- the number of an option that is given
abbrev pub GivesNumber : NumberOption → Option Text → ℕ → Type 0
GivesNumber option None n = ⊥
GivesNumber option (Some text) n = NamesNumber option text n

-- the number that the option has: its value's, or the default if there is no value or one that stands for none
abbrev pub SaysNumber : NumberOption → ℕ → Option Text → ℕ → Type 0
SaysNumber option default None n = n ≡ default
SaysNumber option default (Some text) n = NamesNumber option text n ⊎ (SaysNone option text × (n ≡ default))
