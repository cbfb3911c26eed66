-- What a mount is opened with.
use Rattle.std.specs.Prelude.{◌≡◌, ◌≤◌, ◌<◌, ◌^◌, ℕ, List, replicate, Option, None}
use Rattle.eden_cache.specs.Cache.{IsObjectBound, IsByteBound, IsSizeBound}
use Rattle.eden_import.specs.Queue.{Queue, IsPassCount, IsFlightCount, empty_queue}
use Rattle.eden_mount.specs.declared.seats.Pending.{Pending}

pub record Settings : Type 0 where
  pub passes : ℕ
  pub flights : ℕ
  -- how long the history may become
  pub history : ℕ
  -- how many objects are cached, of how many bytes together, and how many sizes
  pub cache_entries : ℕ
  pub cache_bytes : ℕ
  pub cache_sizes : ℕ

abbrev pub settings_from : ℕ → ℕ → ℕ → ℕ → ℕ → ℕ → Settings
settings_from passes flights history cache_entries cache_bytes cache_sizes = record {
  passes = passes;
  flights = flights;
  history = history;
  cache_entries = cache_entries;
  cache_bytes = cache_bytes;
  cache_sizes = cache_sizes;
}

-- the limits of each
pub record InLimits (s : Settings) : Type 0 where
  pub passes : IsPassCount s.passes
  pub flights : IsFlightCount s.flights
  pub some_history : 1 ≤ s.history
  pub short_history : s.history < 2 ^ 32
  pub cache_entries : IsObjectBound s.cache_entries
  pub cache_bytes : IsByteBound s.cache_bytes
  pub cache_sizes : IsSizeBound s.cache_sizes

-- the room of a mount in which nothing has happened
pub record Room : Type 0 where
  pub queue : Queue
  pub seats : List (Option Pending)

abbrev pub room_from : Queue → List (Option Pending) → Room
room_from q seats = record { queue = q; seats = seats }

abbrev pub room_for : Settings → Room
room_for s = room_from (empty_queue s.passes s.flights) (replicate s.passes None)

-- .. is that of some settings
pub record IsRoom (r : Room) : Type 0 where
  pub settings : Settings
  pub limits : InLimits settings
  pub is : r ≡ room_for settings
