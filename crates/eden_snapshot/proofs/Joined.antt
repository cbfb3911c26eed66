-- What is written of entries, one after the other.
use Rattle.std.proofs.Common.{◌≡◌, ◌≢◌, ℕ, true, false, List, [], ◌∷◌, ◌++◌, Option, Some, None, refl, sym, ap, ◌∙◌, subst, append_assoc, append-nil, length, arith}
use Rattle.std.specs.Option.{is_some}
use Rattle.eden_model.specs.declared.id.Id.{Id}
use Rattle.eden_model.specs.declared.kind.Kind.TheVariants as kind
use Rattle.eden_model.specs.declared.kind.Mode.{Mode}
use Rattle.eden_model.specs.declared.kind.Mode.TheVariants as mode
use Rattle.eden_model.specs.declared.kind.Origin.TheVariants as origin
use Rattle.eden_model.specs.declared.tree_entry.TreeEntry.{TreeEntry}
use Rattle.eden_model.specs.Trees.{Path}
use Rattle.eden_object.specs.declared.word.Word.TheVariants as word
use Rattle.eden_object.specs.Frames.{frame}
use Rattle.eden_overlay_format.specs.declared.stored_entry.StoredEntry.{StoredEntry}
use Rattle.eden_overlay.specs.Files.{Stored}
use Rattle.eden_overlay.specs.Held.{root_file}
use Rattle.eden_snapshot.specs.declared.left_out.LeftOut.TheVariants as why
use Rattle.eden_snapshot.specs.Sinks.{Handed, Told, Omission, Filled, grown, with_object, with_omission}
use Rattle.eden_snapshot.specs.Written.{mode_of, entry_with, tree_entries_of, Known, path_of, Written, nothing, object, content, directory}
use Rattle.eden_snapshot.specs.Written.{bare, submodule, unknown, WritesEntries, WritesDirectory, WritesTop, own, HandedTree, HandedContent, StandsFor, IsSubmodule}

module _ (F : Stored) (K : Known) (front : Path) (fs : List StoredEntry) (us : List TreeEntry) (after : Handed) (later : Told)
    (then_written : Written F K front fs us after later) where
  -- the same, were the objects and the omissions grouped otherwise
  grouped : (es : List StoredEntry) (ts : List TreeEntry) (x y : Handed) (a b : Told) → x ≡ y → a ≡ b → Written F K front es ts x a → Written F K front es ts y b
  grouped es ts x y a b same alike w =
      subst (λ (t : Told). Written F K front es ts y t) alike (subst (λ (h : Handed). Written F K front es ts h a) same w)

  pub both : (es : List StoredEntry) (ts : List TreeEntry) (handed : Handed) (told : Told) → Written F K front es ts handed told
      → Written F K front (es ++ fs) (ts ++ us) (handed ++ after) (told ++ later)
  both es ts handed told (nothing at) = then_written
  both es ts handed told (object at e id more vs others heard is w) =
      object front e id (more ++ fs) (vs ++ us) (others ++ after) (heard ++ later) is (both more vs others heard w)
  both es ts handed told (content at e bytes id more vs others heard is plain held digest w) =
      content front e bytes id (more ++ fs) (vs ++ us) (others ++ after) (heard ++ later) is plain held digest (both more vs others heard w)
  both es ts handed told (directory at e inside first rest below found framed id more vs others heard is at_kind held v encoded digest w) =
      grouped (e ∷ (more ++ fs)) (entry_with e id ∷ (vs ++ us)) (below ++ framed ∷ (others ++ after)) ((below ++ framed ∷ others) ++ after)
      (found ++ (heard ++ later)) ((found ++ heard) ++ later) (sym (append_assoc below (framed ∷ others) after)) (sym (append_assoc found heard later))
      (directory front e inside first rest below found framed id (more ++ fs) (vs ++ us) (others ++ after) (heard ++ later) is at_kind held v encoded digest
      (both more vs others heard w))
  both es ts handed told (bare at e inside more vs below others found heard is at_kind held v w) =
      let left_out : Omission = (path_of front e, why.Empty) in
      grouped (e ∷ (more ++ fs)) (vs ++ us) (below ++ (others ++ after)) ((below ++ others) ++ after)
      (found ++ left_out ∷ (heard ++ later)) ((found ++ left_out ∷ heard) ++ later) (sym (append_assoc below others after))
      (sym (append_assoc found (left_out ∷ heard) later))
      (bare front e inside (more ++ fs) (vs ++ us) below (others ++ after) found (heard ++ later) is at_kind held v (both more vs others heard w))
  both es ts handed told (submodule at e id more vs others heard is known w) =
      submodule front e id (more ++ fs) (vs ++ us) (others ++ after) (heard ++ later) is known (both more vs others heard w)
  both es ts handed told (unknown at e more vs others heard is none w) =
      unknown front e (more ++ fs) (vs ++ us) (others ++ after) (heard ++ later) is none (both more vs others heard w)

-- ---- what a sink has

filled : Handed → Told → Filled
filled h t = record { kept = h; told = t }

pub grown_none : (f : Filled) → f ≡ grown f [] []
grown_none f =
    let by_kept : Handed → Filled = λ h. record { kept = h; told = f.told } in
    let by_told : Told → Filled = λ t. record { kept = f.kept ++ []; told = t } in
    ap by_kept (sym (append-nil f.kept)) ∙ ap by_told (sym (append-nil f.told))

pub grown_twice : (f : Filled) (h k : Handed) (t u : Told) → grown (grown f h t) k u ≡ grown f (h ++ k) (t ++ u)
grown_twice f h k t u =
    let by_kept : Handed → Filled = λ x. record { kept = x; told = (f.told ++ t) ++ u } in
    let by_told : Told → Filled = λ x. record { kept = f.kept ++ (h ++ k); told = x } in
    ap by_kept (append_assoc f.kept h k) ∙ ap by_told (append_assoc f.told t u)

pub object_grown : (f : Filled) (framed : List ℕ) → with_object f framed ≡ grown f (framed ∷ []) []
object_grown f framed =
    let by_told : Told → Filled = λ t. record { kept = f.kept ++ framed ∷ []; told = t } in
    ap by_told (sym (append-nil f.told))

pub omission_grown : (f : Filled) (o : Omission) → with_omission f o.0 o.1 ≡ grown f [] (o ∷ [])
omission_grown f o =
    let by_kept : Handed → Filled = λ h. record { kept = h; told = f.told ++ o ∷ [] } in
    ap by_kept (sym (append-nil f.kept))

-- nothing yet
pub none_yet : (F : Stored) (K : Known) (front : Path) (f : Filled) → WritesEntries F K front [] [] f f
none_yet F K front f = record { handed = []; told = []; grew = grown_none f; written = nothing front }

-- one entry more
pub one_more : (F : Stored) (K : Known) (front : Path) (es : List StoredEntry) (ts : List TreeEntry) (e : StoredEntry) (us : List TreeEntry) (old mid new : Filled)
    → WritesEntries F K front es ts old mid → WritesEntries F K front (e ∷ []) us mid new → WritesEntries F K front (es ++ e ∷ []) (ts ++ us) old new
one_more F K front es ts e us old mid new w v = record {
  handed = w.handed ++ v.handed;
  told = w.told ++ v.told;
  grew = v.grew ∙ ap (λ (f : Filled). grown f v.handed v.told) w.grew ∙ grown_twice old w.handed v.handed w.told v.told;
  written = both F K front (e ∷ []) us v.handed v.told v.written es ts w.handed w.told w.written;
}

-- ---- one entry alone, by what it is written as

pub alone_object : (F : Stored) (K : Known) (front : Path) (e : StoredEntry) (id : Id) (f : Filled) → e.origin ≡ origin.Object id
    → WritesEntries F K front (e ∷ []) (entry_with e id ∷ []) f f
alone_object F K front e id f is = record { handed = []; told = []; grew = grown_none f; written = object front e id [] [] [] [] is (nothing front) }

pub alone_content : (F : Stored) (K : Known) (front : Path) (e : StoredEntry) (id : Id) (old new : Filled) → e.origin ≡ origin.Own → e.kind ≢ kind.Dir
    → HandedContent F e.number id old new → WritesEntries F K front (e ∷ []) (entry_with e id ∷ []) old new
alone_content F K front e id old new is plain h = record {
  handed = frame word.Blob h.bytes ∷ [];
  told = [];
  grew = h.grew ∙ object_grown old (frame word.Blob h.bytes);
  written = content front e h.bytes id [] [] [] [] is plain h.held h.digest (nothing front);
}

-- under the mode that it was given
pub by_mode : (F : Stored) (K : Known) (front : Path) (e : StoredEntry) (m n : Mode) (id : Id) (old new : Filled) → m ≡ n
    → WritesEntries F K front (e ∷ []) (tree_entries_of e (Some (n, id))) old new → WritesEntries F K front (e ∷ []) (tree_entries_of e (Some (m, id))) old new
by_mode F K front e m n id old new same w = subst (λ (k : Mode). WritesEntries F K front (e ∷ []) (tree_entries_of e (Some (k, id))) old new) (sym same) w

as_tree : (F : Stored) (K : Known) (front : Path) (e : StoredEntry) (ts : List TreeEntry) (id : Id) (old mid new : Filled) → e.origin ≡ origin.Own → e.kind ≡ kind.Dir
    → WritesDirectory F K (path_of front e) e.number ts old mid → ts ≢ [] → HandedTree ts id mid new → WritesEntries F K front (e ∷ []) (entry_with e id ∷ []) old new
as_tree F K front e [] id old mid new is at_kind w some h = absurd (some refl)
as_tree F K front e (first ∷ others) id old mid new is at_kind w some h = record {
  handed = w.writes.handed ++ h.framed ∷ [];
  told = w.writes.told ++ [];
  grew = h.grew ∙ object_grown mid h.framed ∙ ap (λ (f : Filled). grown f (h.framed ∷ []) []) w.writes.grew
      ∙ grown_twice old w.writes.handed (h.framed ∷ []) w.writes.told [];
  written = directory front e w.inside first others w.writes.handed w.writes.told h.framed id [] [] [] [] is at_kind w.held w.writes.written h.encoded h.digest
      (nothing front);
}

-- an own directory
pub alone_directory : (F : Stored) (K : Known) (front : Path) (e : StoredEntry) (o : Option (Mode × Id)) (old new : Filled) → e.origin ≡ origin.Own → e.kind ≡ kind.Dir
    → StandsFor F K (path_of front e) e.number o old new → WritesEntries F K front (e ∷ []) (tree_entries_of e o) old new
alone_directory F K front e (Some stands) old new is at_kind h =
    let w = as_tree F K front e h.1.0 stands.1 old h.1.1.0 new is at_kind h.1.1.1.0 h.1.1.1.1 h.1.1.1.2 in
    let same : stands.0 ≡ mode_of e.kind = h.0 ∙ ap mode_of (sym at_kind) in
    by_mode F K front e stands.0 (mode_of e.kind) stands.1 old new same w
alone_directory F K front e None old new is at_kind h =
    let mid = h.0 in
    let w = h.1.0 in
    let left_out : Omission = (path_of front e, why.Empty) in
    record {
      handed = w.writes.handed ++ [];
      told = w.writes.told ++ left_out ∷ [];
      grew = h.1.1 ∙ omission_grown mid left_out ∙ ap (λ (f : Filled). grown f [] (left_out ∷ [])) w.writes.grew
          ∙ grown_twice old w.writes.handed [] w.writes.told (left_out ∷ []);
      written = bare front e w.inside [] [] w.writes.handed [] w.writes.told [] is at_kind w.held w.writes.written (nothing front);
    }

-- one without contents
pub alone_void : (F : Stored) (K : Known) (front : Path) (e : StoredEntry) (o : Option (Mode × Id)) (old new : Filled) → e.origin ≡ origin.Empty
    → IsSubmodule K (path_of front e) o old new → WritesEntries F K front (e ∷ []) (tree_entries_of e o) old new
alone_void F K front e (Some stands) old new is h =
    let w : WritesEntries F K front (e ∷ []) (tree_entries_of e (Some (mode.Gitlink, stands.1))) old new = record {
      handed = [];
      told = [];
      grew = h.2 ∙ grown_none old;
      written = submodule front e stands.1 [] [] [] [] is h.1 (nothing front);
    } in
    by_mode F K front e stands.0 mode.Gitlink stands.1 old new h.0 w
alone_void F K front e None old new is h =
    let left_out : Omission = (path_of front e, why.Submodule) in
    record {
      handed = [];
      told = left_out ∷ [];
      grew = h.1 ∙ omission_grown old left_out;
      written = unknown front e [] [] [] [] is h.0 (nothing front);
    }

-- ---- in a loop, and at the top

-- one entry more, whatever stands for the files, the submodules and the path in between
pub goes_on : (F G : Stored) (K L : Known) (front at : Path) (es : List StoredEntry) (ts all : List TreeEntry) (e : StoredEntry) (us : List TreeEntry) (old mid new : Filled)
    → G ≡ F → L ≡ K → at ≡ front → all ≡ ts ++ us → WritesEntries F K front es ts old mid → WritesEntries G L at (e ∷ []) us mid new
    → WritesEntries F K front (es ++ e ∷ []) all old new
goes_on F G K L front at es ts all e us old mid new same alike there is w v =
    let here = subst (λ (H : Stored). WritesEntries H L at (e ∷ []) us mid new) same v in
    let known = subst (λ (M : Known). WritesEntries F M at (e ∷ []) us mid new) alike here in
    let placed = subst (λ (p : Path). WritesEntries F K p (e ∷ []) us mid new) there known in
    subst (λ (xs : List TreeEntry). WritesEntries F K front (es ++ e ∷ []) xs old new) (sym is) (one_more F K front es ts e us old mid new w placed)

pub own_top : (F G : Stored) (K : Known) (root id : Id) (front : Path) (ts us : List TreeEntry) (old mid new : Filled) → G ≡ F → front ≡ [] → is_some (root_file F) ≡ true
    → WritesDirectory G K front 1 ts old mid → us ≡ ts → HandedTree us id mid new → WritesTop F K root id old new
own_top F G K root id front ts us old mid new same at rooted w is h =
    let here = subst (λ (H : Stored). WritesDirectory H K front 1 ts old mid) same w in
    let placed = subst (λ (p : Path). WritesDirectory F K p 1 ts old mid) at here in
    let tree = subst (λ (xs : List TreeEntry). HandedTree xs id mid new) is h in
    subst (λ (f : Filled). WritesTop F K root id old f) (sym tree.grew) (own ts tree.framed id old mid rooted placed tree.encoded tree.digest)

pub empty_list : (ts : List TreeEntry) → length ts ≡ 0 → ts ≡ []
empty_list [] none = refl
empty_list (t ∷ ts) none = absurd (omega arith)

pub none_there : (o : Option (List ℕ)) → is_some o ≡ false → o ≡ None
none_there None no_file = refl
none_there (Some bytes) no_file = absurd (cc)
