-- A directory's body, and the one that is made of it.
use Rattle.std.proofs.Common.{◌≡◌, ◌≤◌, ℕ, ◌+◌, Bool, true, false, List, [], ◌∷◌, ◌++◌, length, drop, replicate, Option, Some, None, refl, sym, ap, subst, ◌∙◌, append_assoc, arith, if◌then◌else◌}
use Rattle.std.specs.Prelude.{IfSome}
use Rattle.std.specs.Option.{option_map}
use Rattle.std.specs.List.{flat_map, AllByRecursion}
use Rattle.std.specs.Int.{w32, to_be_bytes}
use Rattle.std.specs.Str.{bytes_eq}
use Rattle.std.proofs.lemmas.List.{length-append}
use Rattle.std.proofs.lemmas.Grind.{flat_map-append}
use Rattle.eden_model.specs.Trees.{Name}
use Rattle.eden_model.specs.Operations.{name_lt}
use Rattle.eden_overlay_format.specs.declared.directory_body.RowFacts.{RowFacts}
use Rattle.eden_overlay_format.specs.declared.stored_entry.StoredEntry.{StoredEntry}
use Rattle.eden_overlay_format.specs.Directory.{IsStorable, row, directory_body}
use Rattle.eden_overlay_format.specs.Listing.{entries_read, entries_under_way, AreRowsOf, IsListingBody}
use Rattle.eden_overlay_format.specs.Changing.{entry_as, put_front, entries_with, entries_before, entries_behind, IsSplit}
use Rattle.eden_overlay_format.proofs.Listed.{read_again}

rows_of : (count : ℕ) (file : List ℕ) (b : IsListingBody count file) → AreRowsOf b.entries count (drop 68 file)
rows_of count file b = record { each = b.each; counted = b.counted; written = ap (drop 68) b.body }

-- what stands there is what contracts see
pub seen : (count : ℕ) (file : List ℕ) (b : IsListingBody count file) → entries_under_way count file ≡ b.entries
unfolding entries_under_way
seen count file b = read_again b.entries count (drop 68 file) (rows_of count file b)

pub stored : (count : ℕ) (file : List ℕ) → IsListingBody count file → drop 64 file ≡ directory_body (entries_under_way count file)
stored count file b = ap (drop 64) b.body ∙ ap directory_body (sym (seen count file b))

pub rows_read : (count : ℕ) (file : List ℕ) (b : IsListingBody count file) (rows : List ℕ) → rows ≡ drop 68 file → AreRowsOf (entries_read count rows) count rows
rows_read count file b rows is =
    let r : AreRowsOf b.entries count rows = subst (AreRowsOf b.entries count) (sym is) (rows_of count file b) in
    subst (λ (es : List StoredEntry). AreRowsOf es count rows) (sym (read_again b.entries count rows r)) r

pub long : (count : ℕ) (file : List ℕ) → IsListingBody count file → 68 ≤ length file
long count file b = omega (arith, ap length b.body)

-- a file that holds the body of these entries
module _ (es : List StoredEntry) (count : ℕ) (file : List ℕ) (each : AllByRecursion IsStorable es) (counted : count ≡ length es) (is : file ≡ replicate 64 0 ++ directory_body es) where
  pub made : IsListingBody count file
  made = record { entries = es; each = each; counted = sym counted; body = is }

  pub made_seen : entries_under_way count file ≡ es
  unfolding made
  made_seen = seen count file made

-- ---- one entry changes

-- those before it, it, and those behind it
chosen : (b : Bool) (e : StoredEntry) (es before behind others : List StoredEntry) (o : Option StoredEntry) → es ≡ before ++ put_front o behind
    → (if b then e ∷ es else put_front o others) ≡ (if b then e ∷ before else []) ++ put_front o (if b then behind else others)
chosen true e es before behind others o is = ap (λ (all : List StoredEntry). e ∷ all) is
chosen false e es before behind others o is = refl

parts : (n : Name) (o : Option StoredEntry) (es : List StoredEntry) → entries_with n o es ≡ entries_before n es ++ put_front o (entries_behind n es)
parts n o [] = refl
parts n o (e ∷ es) =
    chosen (name_lt e.name n) e (entries_with n o es) (entries_before n es) (entries_behind n es) (if bytes_eq n e.name then es else e ∷ es) o (parts n o es)

alone : (o : Option StoredEntry) (es : List StoredEntry) → put_front o es ≡ put_front o [] ++ es
alone None es = refl
alone (Some e) es = refl

three : (n : Name) (o : Option StoredEntry) (es : List StoredEntry) → entries_with n o es ≡ entries_before n es ++ (put_front o [] ++ entries_behind n es)
three n o es = parts n o es ∙ ap (λ (behind : List StoredEntry). entries_before n es ++ behind) (alone o (entries_behind n es))

front_each : (o : Option StoredEntry) (es : List StoredEntry) → IfSome o IsStorable → AllByRecursion IsStorable es → AllByRecursion IsStorable (put_front o es)
front_each None es one all = all
front_each (Some e) es one all = (one, all)

left_each : (b : Bool) (e : StoredEntry) (es : List StoredEntry) → IsStorable e → AllByRecursion IsStorable es → AllByRecursion IsStorable (if b then es else e ∷ es)
left_each true e es one all = all
left_each false e es one all = (one, all)

either_each : (b : Bool) (e : StoredEntry) (es others : List StoredEntry) → IsStorable e → AllByRecursion IsStorable es → AllByRecursion IsStorable others
    → AllByRecursion IsStorable (if b then e ∷ es else others)
either_each true e es others one all rest = (one, all)
either_each false e es others one all rest = rest

each_with : (n : Name) (o : Option StoredEntry) (es : List StoredEntry) → IfSome o IsStorable → AllByRecursion IsStorable es → AllByRecursion IsStorable (entries_with n o es)
each_with n o [] one all = front_each o [] one tt
each_with n o (e ∷ es) one all =
    let others : List StoredEntry = if bytes_eq n e.name then es else e ∷ es in
    either_each (name_lt e.name n) e (entries_with n o es) (put_front o others) all.0 (each_with n o es one all.1)
    (front_each o others one (left_each (bytes_eq n e.name) e es all.0 all.1))

pub put_together : (room digits before middle behind a b c d e : List ℕ) → a ≡ room → b ≡ a ++ digits → c ≡ b ++ before → d ≡ c ++ middle → e ≡ d ++ behind
    → e ≡ room ++ (digits ++ (before ++ (middle ++ behind)))
put_together room digits before middle behind a b c d e e0 e1 e2 e3 e4 = e4 ∙ rw (e3, e2, e1, e0) (simp append_assoc)

storable : (name : Name) (facts : Option RowFacts) → IfSome facts (λ f. IsStorable (entry_as name f)) → IfSome (option_map (entry_as name) facts) IsStorable
storable name None h = h
storable name (Some f) h = h

-- the new file: the count, the rows before, the new row, the rows behind
module _ (count : ℕ) (file : List ℕ) (b : IsListingBody count file) (name : Name) (facts : Option RowFacts) (good : IfSome facts (λ f. IsStorable (entry_as name f)))
    (rows before behind : List ℕ) (others : ℕ) (is_rows : rows ≡ drop 68 file) (s : IsSplit name (entries_read count rows) before behind others)
    (total : ℕ) (counted : total ≡ others + length (put_front (option_map (entry_as name) facts) [])) (new : List ℕ)
    (written : new ≡ replicate 64 0 ++ (to_be_bytes w32 total ++ (before ++ (flat_map row (put_front (option_map (entry_as name) facts) []) ++ behind)))) where
  abbrev o : Option StoredEntry
  o = option_map (entry_as name) facts

  abbrev old : List StoredEntry
  old = entries_read count rows

  abbrev es : List StoredEntry
  es = entries_with name o old

  old_each : AllByRecursion IsStorable old
  old_each = (rows_read count file b rows is_rows).each

  each : AllByRecursion IsStorable es
  each = each_with name o old (storable name facts good) old_each

  all_counted : total ≡ length es
  all_counted = omega (
    arith,
    counted,
    s.counted,
    ap length (three name o old),
    length-append (entries_before name old) (put_front o [] ++ entries_behind name old),
    length-append (put_front o []) (entries_behind name old),
  )

  all_rows : before ++ (flat_map row (put_front o []) ++ behind) ≡ flat_map row es
  all_rows =
      ap (λ (front : List ℕ). front ++ (flat_map row (put_front o []) ++ behind)) s.rows_before
      ∙ ap (λ (last : List ℕ). flat_map row (entries_before name old) ++ (flat_map row (put_front o []) ++ last)) s.rows_behind
      ∙ ap (λ (last : List ℕ). flat_map row (entries_before name old) ++ last) (sym (flat_map-append row (put_front o []) (entries_behind name old)))
      ∙ sym (flat_map-append row (entries_before name old) (put_front o [] ++ entries_behind name old)) ∙ ap (flat_map row) (sym (three name o old))

  whole : new ≡ replicate 64 0 ++ directory_body es
  whole =
      written ∙ ap (λ (n : ℕ). replicate 64 0 ++ (to_be_bytes w32 n ++ (before ++ (flat_map row (put_front o []) ++ behind)))) all_counted
      ∙ ap (λ (rows : List ℕ). replicate 64 0 ++ (to_be_bytes w32 (length es) ++ rows)) all_rows

  pub changed : IsListingBody total new
  changed = made es total new each all_counted whole

  pub changed_seen : entries_under_way total new ≡ entries_with name o (entries_under_way count file)
  unfolding entries_under_way
  changed_seen = made_seen es total new each all_counted whole ∙ ap (λ (r : List ℕ). entries_with name o (entries_read count r)) is_rows
