-- The files with one of them put in.
use Rattle.std.proofs.Common.{◌≡◌, ◌≢◌, ℕ, Bool, false, List, Option, Some, None, cond, eq-eqb, refl, sym, ap, inl, inr, ◌⊎◌, ◌∙◌, subst}
use Rattle.std.specs.Option.{option_and_then}
use Rattle.std.proofs.lemmas.Bool.{ne_eqb}
use Rattle.std.proofs.lemmas.Bool.Decides.{eqb_tells}
use Rattle.std.proofs.lemmas.Option.{option_and_then_some, same_Some, none-some}
use Rattle.eden_model.specs.declared.kind.Kind.{Kind}
use Rattle.eden_model.specs.declared.kind.Kind.TheVariants as kind
use Rattle.eden_overlay_format.specs.declared.header.Identifier.TheVariants as identifier
use Rattle.eden_overlay_format.specs.declared.stored_entry.StoredEntry.{StoredEntry}
use Rattle.eden_overlay_format.specs.Stored.{stored_as}
use Rattle.eden_overlay_format.specs.Numbers.{has_numbers}
use Rattle.eden_overlay_format.specs.Directory.{AreStorable, directory_body}
use Rattle.eden_overlay_format.specs.Values.{content_in, entries_in}
use Rattle.eden_overlay_format.proofs.CallerLemmas.{content_written, entries_written, entries_storable, content_or_entries, content_is_plain, entries_are_plain}
use Rattle.eden_overlay.specs.Files.{Stored, with_file}
use Rattle.eden_overlay.specs.Held.{HoldsContent, HoldsEntries, unless_numbers, root_file}
use Rattle.eden_overlay.specs.Soundness.{Names, HoldsKind}
use Rattle.eden_overlay.specs.Laws.{ContentsHeld, EntriesHeld}

pub put_here : (F : Stored) (k q : ℕ) (w : Option (List ℕ)) → k ≡ q → with_file F k w q ≡ w
put_here F k q w e = ap (λ b. cond b w (F q)) (eq-eqb k q e)

pub put_apart : (F : Stored) (k q : ℕ) (w : Option (List ℕ)) → k ≢ q → with_file F k w q ≡ F q
put_apart F k q w ne = ap (λ b. cond b w (F q)) (ne_eqb k q ne)

pub same_or_apart : (k q : ℕ) → (k ≡ q) ⊎ (k ≢ q)
same_or_apart k q = elim (eqb_tells k q) [ inl h ↦ inl h.1 | inr h ↦ inr h.1 ]

-- ---- files that are equal

pub moved : {X : Type 0} (value : List ℕ → Option X) (f g : Option (List ℕ)) (x : X) → f ≡ g → option_and_then value f ≡ Some x → option_and_then value g ≡ Some x
moved value f g x same h = ap (option_and_then value) (sym same) ∙ h

pub names_moved : (F G : Stored) (d : ℕ) (e : StoredEntry) → F d ≡ G d → Names F d e → Names G d e
names_moved F G d e same n = record { entries = n.entries; held = moved entries_in (F d) (G d) n.entries same n.held; there = n.there }

pub kind_moved : (F G : Stored) (k : ℕ) (t : Kind) → F k ≡ G k → HoldsKind F k t → HoldsKind G k t
kind_moved F G k kind.Dir same h = (h.0, moved entries_in (F k) (G k) h.0 same h.1)
kind_moved F G k kind.File same h = (h.0, moved content_in (F k) (G k) h.0 same h.1)
kind_moved F G k kind.Exec same h = (h.0, moved content_in (F k) (G k) h.0 same h.1)
kind_moved F G k kind.Link same h = (h.0, moved content_in (F k) (G k) h.0 same h.1)

-- ---- what is put in is held

pub contents_held : ContentsHeld
contents_held F k content short =
    let bytes = stored_as identifier.File content in
    moved content_in (Some bytes) (with_file F k (Some bytes) k) content (sym (put_here F k k (Some bytes) refl)) (content_written content short)

pub entries_held : EntriesHeld
entries_held F k entries are =
    let bytes = stored_as identifier.Directory (directory_body entries) in
    moved entries_in (Some bytes) (with_file F k (Some bytes) k) entries (sym (put_here F k k (Some bytes) refl)) (entries_written entries are)

-- ---- one value

pub one_held : (F : Stored) (k : ℕ) (es fs : List StoredEntry) → HoldsEntries F k es → HoldsEntries F k fs → es ≡ fs
one_held F k es fs h g = same_Some es fs (sym h ∙ g)

pub one_kind : (F : Stored) (k : ℕ) (content : List ℕ) (entries : List StoredEntry) → HoldsContent F k content → HoldsEntries F k entries → ⊥
one_kind F k content entries h g =
    option_and_then_some content_in (F k) content h (λ bytes at found.
    option_and_then_some entries_in (F k) entries g (λ others there listed.
    let P : List ℕ → Type 0 = λ b. entries_in b ≡ Some entries in
    content_or_entries bytes content entries found (subst P (same_Some others bytes (sym there ∙ at)) listed)))

pub held_storable : (F : Stored) (k : ℕ) (entries : List StoredEntry) → HoldsEntries F k entries → AreStorable entries
held_storable F k entries h = option_and_then_some entries_in (F k) entries h (λ bytes at found. entries_storable bytes entries found)

-- nothing is held where nothing is stored
pub nothing_there : (F : Stored) (k : ℕ) (t : Kind) → F k ≡ None → HoldsKind F k t → ⊥
nothing_there F k kind.Dir none h = none-some h.0 (moved entries_in (F k) None h.0 none h.1)
nothing_there F k kind.File none h = none-some h.0 (moved content_in (F k) None h.0 none h.1)
nothing_there F k kind.Exec none h = none-some h.0 (moved content_in (F k) None h.0 none h.1)
nothing_there F k kind.Link none h = none-some h.0 (moved content_in (F k) None h.0 none h.1)

-- ---- the root's file

pub root_same : (F G : Stored) → F 1 ≡ G 1 → root_file F ≡ root_file G
root_same F G same = ap (option_and_then unless_numbers) same

-- bytes that are no numbers stand
plain_stands : (bytes : List ℕ) → has_numbers bytes ≡ false → option_and_then unless_numbers (Some bytes) ≡ Some bytes
plain_stands bytes other = ap (λ (b : Bool). cond b None (Some bytes)) other

pub entries_at_root : (F : Stored) (es : List StoredEntry) → root_file F ≡ None → HoldsEntries F 1 es → ⊥
entries_at_root F es none h = option_and_then_some entries_in (F 1) es h (λ bytes at found.
    none-some bytes (sym none ∙ ap (option_and_then unless_numbers) at ∙ plain_stands bytes (entries_are_plain bytes es found)))

-- a directory there is the root's
pub root_holds : (F : Stored) (es : List StoredEntry) → HoldsEntries F 1 es → option_and_then entries_in (root_file F) ≡ Some es
root_holds F es h = option_and_then_some entries_in (F 1) es h (λ bytes at found.
    ap (λ (o : Option (List ℕ)). option_and_then entries_in (option_and_then unless_numbers o)) at
    ∙ ap (option_and_then entries_in) (plain_stands bytes (entries_are_plain bytes es found)) ∙ found)

content_at_root : (F : Stored) (content : List ℕ) → root_file F ≡ None → HoldsContent F 1 content → ⊥
content_at_root F content none h = option_and_then_some content_in (F 1) content h (λ bytes at found.
    none-some bytes (sym none ∙ ap (option_and_then unless_numbers) at ∙ plain_stands bytes (content_is_plain bytes content found)))

pub nothing_at_root : (F : Stored) (t : Kind) → root_file F ≡ None → HoldsKind F 1 t → ⊥
nothing_at_root F kind.Dir none h = entries_at_root F h.0 none h.1
nothing_at_root F kind.File none h = content_at_root F h.0 none h.1
nothing_at_root F kind.Exec none h = content_at_root F h.0 none h.1
nothing_at_root F kind.Link none h = content_at_root F h.0 none h.1

-- file 1 as it was
pub top_same : (F G : Stored) → F 1 ≡ G 1 → ((root_file F ≡ None) ⊎ HoldsKind F 1 kind.Dir) → (root_file G ≡ None) ⊎ HoldsKind G 1 kind.Dir
top_same F G same (inl none) = inl (sym (root_same F G same) ∙ none)
top_same F G same (inr there) = inr (kind_moved F G 1 kind.Dir same there)
