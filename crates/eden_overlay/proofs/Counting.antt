-- The directories that count: their entries, and which of them are live.
use Rattle.std.proofs.Common.{◌≡◌, ◌≢◌, ◌∙◌, ◌≤◌, ◌&&◌, ℕ, zero, suc, Bool, true, false, not, nat_le, length}
use Rattle.std.proofs.Common.{List, [], ◌∷◌, Option, Some, None, IsSomeAnd, Contains, refl, sym, ap, subst, inl, inr, arith}
use Rattle.std.specs.Option.{IsSome, option_and_then}
use Rattle.std.specs.Str.{bytes_eq}
use Rattle.std.proofs.Math.Bool.{and-false}
use Rattle.std.proofs.lemmas.Option.{cond_some, option_and_then_some, same_Some, none-some}
use Rattle.eden_model.specs.declared.id.Id.{Id}
use Rattle.eden_model.specs.declared.kind.Origin.{Origin}
use Rattle.eden_model.specs.declared.kind.Origin.TheVariants as origin
use Rattle.eden_model.specs.Keys.{same_id}
use Rattle.eden_model.specs.Limits.{number_least}
use Rattle.eden_model.proofs.CallerLemmas.{same_id-Decides}
use Rattle.eden_overlay_format.specs.declared.header.Identifier.TheVariants as identifier
use Rattle.eden_overlay_format.specs.declared.refusal.Refusal.{Refusal}
use Rattle.eden_overlay_format.specs.declared.refusal.Refusal.TheVariants.{Short, BadIdentifier, BadVersion, BadLength, BadDigest, BadBody}
use Rattle.eden_overlay_format.specs.declared.refusal.DecodeFault.{DecodeFault}
use Rattle.eden_overlay_format.specs.declared.refusal.DecodeFault.TheVariants as decode
use Rattle.eden_overlay_format.specs.declared.state.State.{State}
use Rattle.eden_overlay_format.specs.declared.stored_entry.StoredEntry.{StoredEntry}
use Rattle.eden_overlay_format.specs.Directory.{is_own, IsStorable, AreStorable}
use Rattle.eden_overlay_format.specs.Numbers.{none_is_own, has_numbers}
use Rattle.eden_overlay_format.specs.State.{state_body}
use Rattle.eden_overlay_format.specs.Stored.{identifier_bytes, stored_as, Refuses}
use Rattle.eden_overlay_format.specs.Values.{numbers_in, FailsWith}
use Rattle.eden_overlay_format.proofs.CallerLemmas.{numbers_good, numbers_stand, first_tells, written_starts}
use Rattle.eden_overlay.specs.Files.{Stored}
use Rattle.eden_overlay.specs.Held.{root_file, of_tree, numbers_of, saved_at, with_state}
use Rattle.eden_overlay.specs.declared.fault.GetFault.TheVariants as get
use Rattle.eden_overlay.specs.Getting.{ExplainsNumbers, of_refusal, of_numbers}
use Rattle.eden_overlay.specs.Soundness.{Names, here, below, IsLive}
use Rattle.eden_overlay.specs.Counting.{root_from, listing_at, ListsEntry, Counts, top, inside, Counted, HasGoodNumbers}
use Rattle.eden_overlay.proofs.Puts.{put_here, held_storable, entries_at_root}
use Rattle.eden_overlay.proofs.Strays.{each_at}

-- ---- numbers that are saved

-- the file that has them, for that tree object
pub record Saved (F : Stored) (k : ℕ) (tree : Id) (entries : List StoredEntry) : Type 0 where
  pub bytes : List ℕ
  pub stored : F k ≡ Some bytes
  pub found : numbers_in bytes ≡ Some (tree, entries)

pub saved_by : (F : Stored) (k : ℕ) (tree : Id) (entries : List StoredEntry) → saved_at F k tree ≡ Some entries → Saved F k tree entries
saved_by F k tree entries h =
    option_and_then_some (numbers_of tree) (F k) entries h (λ bytes stored of.
    option_and_then_some (of_tree tree) (numbers_in bytes) entries of (λ found there at.
    let its = cond_some (same_id found.0 tree) found.1 entries at in
    let P : Id × List StoredEntry → Type 0 = λ x. numbers_in bytes ≡ Some x in
    record {
      bytes = bytes;
      stored = stored;
      found = subst (λ (t : Id). P (t, entries)) ((same_id-Decides found.0 tree).0 its.0) (subst (λ (es : List StoredEntry). P (found.0, es)) its.1 there);
    }))

-- they are in their grammar, whatever else the file could have had
pub saved_good : (F : Stored) (k : ℕ) (tree : Id) (entries : List StoredEntry) → saved_at F k tree ≡ Some entries → HasGoodNumbers (F k)
saved_good F k tree entries h bytes there numbers =
    let s = saved_by F k tree entries h in
    let same : s.bytes ≡ bytes = same_Some s.bytes bytes (sym s.stored ∙ there) in
    subst (λ (b : List ℕ). IsSome (numbers_in b)) same (subst (λ (o : Option (Id × List StoredEntry)). IsSome o) (sym s.found) refl)

-- where no numbers are, none are saved, and none are bad
pub none_saved : (F : Stored) (k : ℕ) (tree : Id) → F k ≡ None → (saved_at F k tree ≡ None) × HasGoodNumbers (F k)
none_saved F k tree none = (ap (option_and_then (numbers_of tree)) none, λ bytes there numbers. absurd (none-some bytes (sym none ∙ there)))

-- what isn't saved, by what each that is would be
unsaved : (F : Stored) (k : ℕ) (tree : Id) (o : Option (List StoredEntry)) → saved_at F k tree ≡ o → ((entries : List StoredEntry) → Saved F k tree entries → ⊥) → o ≡ None
unsaved F k tree None is never = refl
unsaved F k tree (Some entries) is never = absurd (never entries (saved_by F k tree entries is))

module _ (F : Stored) (k : ℕ) (tree : Id) (bytes : List ℕ) (stored : F k ≡ Some bytes) where
  pub plain_saved : has_numbers bytes ≡ false → (saved_at F k tree ≡ None) × HasGoodNumbers (F k)
  plain_saved plain = (
    unsaved F k tree (saved_at F k tree) refl (λ entries s.
        let same : s.bytes ≡ bytes = same_Some s.bytes bytes (sym s.stored ∙ stored) in
        let wrong : true ≡ false = sym (numbers_stand s.bytes tree entries s.found) ∙ ap has_numbers same ∙ plain in
        absurd (cc)),
    λ others there numbers.
        (let same : others ≡ bytes = same_Some others bytes (sym there ∙ stored) in
        let wrong : true ≡ false = sym numbers ∙ ap has_numbers same ∙ plain in
        absurd (cc)),
  )

  -- those of another tree object
  pub other_saved : (found : Id × List StoredEntry) → numbers_in bytes ≡ Some found → found.0 ≢ tree → (saved_at F k tree ≡ None) × HasGoodNumbers (F k)
  other_saved found there other = (
    unsaved F k tree (saved_at F k tree) refl (λ entries s.
        let same : s.bytes ≡ bytes = same_Some s.bytes bytes (sym s.stored ∙ stored) in
        let one : found ≡ (tree, entries) = same_Some found (tree, entries) (sym there ∙ ap numbers_in (sym same) ∙ s.found) in
        absurd (other (ap (λ (x : Id × List StoredEntry). x.0) one))),
    λ others at numbers.
        (let same : bytes ≡ others = same_Some bytes others (sym stored ∙ at) in
        subst (λ (b : List ℕ). IsSome (numbers_in b)) same (subst (λ (o : Option (Id × List StoredEntry)). IsSome o) (sym there) refl)),
  )

-- the state's file has none
pub state_has_none : (F : Stored) (s : State) (tree : Id) → saved_at (with_state F s) 0 tree ≡ None
state_has_none F s tree =
    let file = stored_as identifier.File (state_body s) in
    let plain : has_numbers file ≡ false =
    ap (λ (four : List ℕ). nat_le 64 (length file) && bytes_eq four (identifier_bytes identifier.Numbers)) (written_starts identifier.File (state_body s))
    ∙ and-false (nat_le 64 (length file)) in
    (plain_saved (with_state F s) 0 tree file (put_here F 0 0 (Some file) refl) plain).0

-- so it is where none are got
pub absent_saved : (F : Stored) (k : ℕ) (tree : Id) → ExplainsNumbers tree (F k) get.Absent → (saved_at F k tree ≡ None) × HasGoodNumbers (F k)
absent_saved F k tree why = by_file (F k) refl why
  where
    by_file : (o : Option (List ℕ)) → F k ≡ o → ExplainsNumbers tree o get.Absent → (saved_at F k tree ≡ None) × HasGoodNumbers (F k)
    by_file None is why = none_saved F k tree is
    by_file (Some bytes) is (inl none) = absurd (none-some bytes (sym none))
    by_file (Some bytes) is (inr (inl plain)) = plain_saved F k tree bytes is plain
    by_file (Some bytes) is (inr (inr other)) = by_numbers (numbers_in bytes) refl other
      where
        by_numbers : (o : Option (Id × List StoredEntry)) → numbers_in bytes ≡ o → IsSomeAnd o (λ found. found.0 ≢ tree) → (saved_at F k tree ≡ None) × HasGoodNumbers (F k)
        by_numbers None there h = absurd h
        by_numbers (Some found) there h = other_saved F k tree bytes is found there h

-- ---- why none are got

refused_by : (tree : Id) (bytes : List ℕ) (e : Refusal) → Refuses identifier.Numbers numbers_in bytes e → ExplainsNumbers tree (Some bytes) (of_refusal e)
refused_by tree bytes Short r = inr (inl ((first_tells bytes).without (inl (sym r.1))))
refused_by tree bytes BadIdentifier r = inr (inl ((first_tells bytes).without (inr (sym r.1))))
refused_by tree bytes BadVersion r =
    ((first_tells bytes).with (λ is. let wrong : BadVersion ≡ Short = r.1 ∙ is in cc) (λ is. let wrong : BadVersion ≡ BadIdentifier = r.1 ∙ is in cc), r)
refused_by tree bytes BadLength r =
    ((first_tells bytes).with (λ is. let wrong : BadLength ≡ Short = r.1 ∙ is in cc) (λ is. let wrong : BadLength ≡ BadIdentifier = r.1 ∙ is in cc), r)
refused_by tree bytes BadDigest r =
    ((first_tells bytes).with (λ is. let wrong : BadDigest ≡ Short = r.1 ∙ is in cc) (λ is. let wrong : BadDigest ≡ BadIdentifier = r.1 ∙ is in cc), r)
refused_by tree bytes BadBody r =
    ((first_tells bytes).with (λ is. let wrong : BadBody ≡ Short = r.1 ∙ is in cc) (λ is. let wrong : BadBody ≡ BadIdentifier = r.1 ∙ is in cc), r)

pub numbers_explained : (tree : Id) (file : Option (List ℕ)) (bytes : List ℕ) (f : DecodeFault) → file ≡ Some bytes → FailsWith identifier.Numbers numbers_in bytes f
    → ExplainsNumbers tree file (of_numbers f)
numbers_explained tree file bytes (decode.Refused e) is h =
    subst (λ (o : Option (List ℕ)). ExplainsNumbers tree o (of_refusal e)) (sym is) (refused_by tree bytes e h)
numbers_explained tree file bytes decode.Memory is h = tt

-- ---- the entries of one directory

-- a directory that counts holds what can be stored
pub listing_storable : (F : Stored) (d : ℕ) (o : Origin) (entries : List StoredEntry) → listing_at F d o ≡ Some entries → AreStorable entries
listing_storable F d (origin.Object tree) entries h = let s = saved_by F d tree entries h in (numbers_good s.bytes tree entries s.found).entries
listing_storable F d origin.Own entries h = held_storable F d entries h
listing_storable F d origin.Empty entries h = absurd (none-some entries h)

pub one_listing : (F : Stored) (d : ℕ) (o : Origin) (es fs : List StoredEntry) → listing_at F d o ≡ Some es → listing_at F d o ≡ Some fs → es ≡ fs
one_listing F d o es fs h g = same_Some es fs (sym h ∙ g)

pub storable_there : (F : Stored) (d : ℕ) (o : Origin) (e : StoredEntry) → ListsEntry F d o e → IsStorable e
storable_there F d o e l = each_at IsStorable l.entries e l.there.0 l.there.1 l.there.2 (listing_storable F d o l.entries l.held).each

-- the number of an entry is never the root's
pub listed_from_two : (F : Stored) (d : ℕ) (o : Origin) (e : StoredEntry) → ListsEntry F d o e → number_least ≤ e.number
listed_from_two F d o e l = (storable_there F d o e l).least

none_own_there : (es : List StoredEntry) (e : StoredEntry) (k : ℕ) → none_is_own es ≡ true → Contains es e → is_own e.origin ≡ false
none_own_there [] e k none there = let within = there.1 in absurd (omega (arith, within))
none_own_there (x ∷ es) e k none (zero, within, is) = subst (λ (y : StoredEntry). is_own y.origin ≡ false) is (first (is_own x.origin) (none_is_own es) none)
  where
    first : (own rest : Bool) → not own && rest ≡ true → own ≡ false
    first true rest h = absurd (cc)
    first false rest h = refl
none_own_there (x ∷ es) e k none (suc i, within, is) = none_own_there es e k (rest (is_own x.origin) (none_is_own es) none) (i, omega (arith, within), is)
  where
    rest : (own rest : Bool) → not own && rest ≡ true → rest ≡ true
    rest true r h = absurd (cc)
    rest false r h = h

-- an own entry is listed in an own directory
pub own_above : (F : Stored) (d : ℕ) (o : Origin) (e : StoredEntry) → ListsEntry F d o e → e.origin ≡ origin.Own → o ≡ origin.Own
own_above F d (origin.Object tree) e l own =
    let s = saved_by F d tree l.entries l.held in
    let wrong : true ≡ false = sym (ap is_own own) ∙ none_own_there l.entries e 0 (numbers_good s.bytes tree l.entries s.found).others l.there in
    absurd (cc)
own_above F d origin.Own e l own = refl
own_above F d origin.Empty e l own = absurd (none-some l.entries l.held)

-- ---- live directories are the own ones that count

pub names_listed : (F : Stored) (d : ℕ) (e : StoredEntry) → Names F d e → ListsEntry F d origin.Own e
names_listed F d e n = record { entries = n.entries; held = n.held; there = n.there }

pub listed_names : (F : Stored) (d : ℕ) (o : Origin) (e : StoredEntry) → o ≡ origin.Own → ListsEntry F d o e → Names F d e
listed_names F d o e own l = record { entries = l.entries; held = ap (listing_at F d) (sym own) ∙ l.held; there = l.there }

-- the root is, where it has a file with entries
root_owned : (root : Id) (file : Option (List ℕ)) → file ≢ None → root_from root file ≡ origin.Own
root_owned root None some = absurd (some refl)
root_owned root (Some bytes) some = refl

module _ (F : Stored) (root : Id) where
  pub live_counts : (d : ℕ) (e : StoredEntry) → IsLive F d → Names F d e → Counts F root d origin.Own
  live_counts d e here n =
      let P : Origin → Type 0 = λ o. Counts F root 1 o in
      subst P (root_owned root (root_file F) (λ none. entries_at_root F n.entries none n.held)) top
  live_counts d e (below c f r m leads) n =
      let P : Origin → Type 0 = λ o. Counts F root f.number o in
      subst P leads.1 (inside c origin.Own f (live_counts c f r m) (names_listed F c f m) leads.0)

  abbrev pub live_counted : (d : ℕ) (e : StoredEntry) → IsLive F d → Names F d e → Counted F root
  live_counted d e live n = record { directory = d; from = origin.Own; entry = e; counts = live_counts d e live n; listed = names_listed F d e n }

  pub counts_live : (d : ℕ) (o : Origin) → Counts F root d o → o ≡ origin.Own → IsLive F d
  counts_live d o top own = here
  counts_live d o (inside c p e r l dir) own =
      let up = own_above F c p e l own in
      below c e (counts_live c p r up) (listed_names F c p e up l) (dir, own)

  -- where an own entry is
  pub owned_live : (n : Counted F root) → n.entry.origin ≡ origin.Own → IsLive F n.directory × Names F n.directory n.entry
  owned_live n own =
      let up = own_above F n.directory n.from n.entry n.listed own in
      (counts_live n.directory n.from n.counts up, listed_names F n.directory n.from n.entry up n.listed)
