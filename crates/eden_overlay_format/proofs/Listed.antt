-- A listing, entry by entry, and the file that it becomes.
use Rattle.std.proofs.Common.{◌≡◌, ◌≤◌, ℕ, ◌+◌, ◌-◌, List, [], ◌∷◌, ◌++◌, length, take, drop, replicate, refl, sym, ap, ◌∙◌, append_assoc, arith}
use Rattle.std.specs.List.{flat_map, AllByRecursion}
use Rattle.std.specs.Int.{w32, to_be_bytes}
use Rattle.std.proofs.lemmas.List.{append-nil, length-append, length-take, take-append-drop, take_at, drop_at}
use Rattle.std.proofs.lemmas.Grind.{flat_map-append}
use Rattle.eden_model.specs.declared.id.Id.{Id}
use Rattle.eden_overlay_format.specs.declared.header.Identifier.TheVariants as identifier
use Rattle.eden_overlay_format.specs.declared.stored_entry.StoredEntry.{StoredEntry}
use Rattle.eden_overlay_format.specs.Stored.{stored_as}
use Rattle.eden_overlay_format.specs.Directory.{IsStorable, row, directory_body}
use Rattle.eden_overlay_format.specs.Numbers.{numbers_body}
use Rattle.eden_overlay_format.specs.Listing.{rows_read, entries_read, entries_under_way, AreRowsOf, IsUnderWay}
use Rattle.eden_overlay_format.proofs.Headers.{sealed}
use Rattle.eden_overlay_format.proofs.Rows.{rows_again}

-- what rows are is what they are read as
pub read_again : (es : List StoredEntry) (count : ℕ) (rows : List ℕ) → AreRowsOf es count rows → entries_read count rows ≡ es
read_again es count rows r =
    ap (λ n. entries_read n rows) (sym r.counted) ∙ ap (entries_read (length es)) (r.written ∙ sym (append-nil (flat_map row es))) ∙ ap rows_read (rows_again es [] r.each)

rows_behind : (count : ℕ) (file : List ℕ) (u : IsUnderWay count file) → AreRowsOf u.entries count (drop 68 file)
rows_behind count file u = record { each = u.each; counted = u.counted; written = ap (drop 68) u.rows ∙ drop_at (replicate 68 0) (flat_map row u.entries) 68 refl }

-- what stands there is what contracts see
pub seen : (count : ℕ) (file : List ℕ) (u : IsUnderWay count file) → entries_under_way count file ≡ u.entries
unfolding entries_under_way
seen count file u = read_again u.entries count (drop 68 file) (rows_behind count file u)

pub empty : (file : List ℕ) → file ≡ replicate 68 0 → IsUnderWay 0 file
empty file e = record { entries = []; each = tt; counted = refl; rows = e ∙ sym (append-nil (replicate 68 0)) }

pub seen_empty : (file : List ℕ) → file ≡ replicate 68 0 → entries_under_way 0 file ≡ []
unfolding empty
seen_empty file e = seen 0 file (empty file e)

each_more : (es : List StoredEntry) (e : StoredEntry) → AllByRecursion IsStorable es → IsStorable e → AllByRecursion IsStorable (es ++ e ∷ [])
each_more [] e all one = (one, tt)
each_more (x ∷ es) e all one = (all.0, each_more es e all.1 one)

module _ (count : ℕ) (file new : List ℕ) (u : IsUnderWay count file) (e : StoredEntry) (one : IsStorable e) (grown : new ≡ file ++ row e) where
  pub more : IsUnderWay (count + 1) new
  more = record {
    entries = u.entries ++ e ∷ [];
    each = each_more u.entries e u.each one;
    counted = length-append u.entries (e ∷ []) ∙ ap (λ n. n + 1) u.counted;
    rows = grown ∙ ap (λ bytes. bytes ++ row e) u.rows ∙ append_assoc (replicate 68 0) (flat_map row u.entries) (row e)
        ∙ ap (λ rows. replicate 68 0 ++ rows) (ap (λ last. flat_map row u.entries ++ last) (sym (append-nil (row e))) ∙ sym (flat_map-append row u.entries (e ∷ [])));
  }

  pub seen_more : entries_under_way (count + 1) new ≡ entries_under_way count file ++ e ∷ []
  unfolding more
  seen_more = seen (count + 1) new more ∙ ap (λ (es : List StoredEntry). es ++ e ∷ []) (sym (seen count file u))

pub counts : (count : ℕ) (file : List ℕ) → IsUnderWay count file → length (entries_under_way count file) ≡ count
counts count file u = ap (length {A = StoredEntry}) (seen count file u) ∙ u.counted

module _ (count : ℕ) (file filled : List ℕ) (u : IsUnderWay count file) (counted : filled ≡ replicate 64 0 ++ to_be_bytes w32 count ++ drop 68 file) where
  abbrev entries : List StoredEntry
  entries = entries_under_way count file

  -- the count is written in its room
  pub body : filled ≡ replicate 64 0 ++ directory_body entries
  body =
      let behind : drop 68 file ≡ flat_map row u.entries = (rows_behind count file u).written in
      counted ∙ ap (λ (n : ℕ). replicate 64 0 ++ to_be_bytes w32 n ++ drop 68 file) (sym u.counted)
      ∙ ap (λ (rows : List ℕ). replicate 64 0 ++ to_be_bytes w32 (length u.entries) ++ rows) behind
      ∙ ap (λ (es : List StoredEntry). replicate 64 0 ++ directory_body es) (sym (seen count file u))

  -- and then the id before it, and the header
  pub numbered : (tree : Id) (longer new : List ℕ) → longer ≡ take 64 filled ++ tree.bytes ++ drop 64 filled → new ≡ stored_as identifier.Numbers (drop 64 longer)
      → new ≡ stored_as identifier.Numbers (numbers_body tree entries)
  numbered tree longer new inserted header =
      let front : take 64 filled ≡ replicate 64 0 = ap (take 64) body ∙ take_at (replicate 64 0) (directory_body entries) 64 refl in
      let behind : drop 64 filled ≡ directory_body entries = ap (drop 64) body ∙ drop_at (replicate 64 0) (directory_body entries) 64 refl in
      sealed identifier.Numbers longer (numbers_body tree entries) new
      (inserted ∙ ap (λ (room : List ℕ). room ++ tree.bytes ++ drop 64 filled) front ∙ ap (λ (rest : List ℕ). replicate 64 0 ++ tree.bytes ++ rest) behind) header

-- what was put behind is turned to the front, in the room of the file
module _ (old id file : List ℕ) (long : 64 ≤ length old) (len : length id ≡ 20) (is : file ≡ old ++ id) where
  front_length : length (take 64 old) ≡ 64
  front_length = omega (arith, length-take 64 old, long)

  split : file ≡ take 64 old ++ (drop 64 old ++ id)
  split = is ∙ ap (λ (all : List ℕ). all ++ id) (sym (take-append-drop 64 old)) ∙ append_assoc (take 64 old) (drop 64 old) id

  front : take 64 file ≡ take 64 old
  front = ap (take 64) split ∙ take_at (take 64 old) (drop 64 old ++ id) 64 front_length

  behind : drop 64 file ≡ drop 64 old ++ id
  behind = ap (drop 64) split ∙ drop_at (take 64 old) (drop 64 old ++ id) 64 front_length

  turn : (body turned : List ℕ) → body ≡ drop 64 old ++ id → turned ≡ drop (length body - 20) body ++ take (length body - 20) body → turned ≡ id ++ drop 64 old
  turn body turned whole h =
      let at : length body - 20 ≡ length (drop 64 old) = omega (arith, ap length whole, length-append (drop 64 old) id, len) in
      h ∙ ap (λ (n : ℕ). drop n body ++ take n body) at
      ∙ ap (λ (b : List ℕ). drop (length (drop 64 old)) b ++ take (length (drop 64 old)) b) whole
      ∙ ap (λ (last : List ℕ). last ++ take (length (drop 64 old)) (drop 64 old ++ id)) (drop_at (drop 64 old) id (length (drop 64 old)) refl)
      ∙ ap (λ (rest : List ℕ). id ++ rest) (take_at (drop 64 old) id (length (drop 64 old)) refl)

  pub inserted : (head body turned : List ℕ) (n : ℕ) → n ≡ length file → head ≡ take 64 file → body ≡ drop 64 file → turned ≡ drop (length body - 20) body ++ take (length body - 20) body
      → take n (head ++ turned ++ drop (length (head ++ turned)) file) ≡ take 64 old ++ id ++ drop 64 old
  inserted head body turned n all first rest h =
      let now = turn body turned (rest ∙ behind) h in
      let parts : head ++ turned ≡ take 64 old ++ (id ++ drop 64 old) = ap (λ (a : List ℕ). a ++ turned) (first ∙ front) ∙ ap (λ (b : List ℕ). take 64 old ++ b) now in
      let sum : length (head ++ turned) ≡ n =
      omega (
        arith,
        ap length parts,
        length-append (take 64 old) (id ++ drop 64 old),
        length-append id (drop 64 old),
        all,
        ap length split,
        length-append (take 64 old) (drop 64 old ++ id),
        length-append (drop 64 old) id,
      ) in
      take_at (head ++ turned) (drop (length (head ++ turned)) file) n sum ∙ parts ∙ sym (append_assoc (take 64 old) id (drop 64 old))
