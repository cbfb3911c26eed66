-- How what is answered where a node stands is the answer of the whole request.
use Rattle.std.proofs.Common.{◌≡◌, ℕ, List, [], ◌∷◌, length, sym, refl, ◌∙◌, ap, subst, Option, Some, None, Result, Ok, Err, IfOk, IfSome, Bool, true, false, cond, eqb, arith}
use Rattle.std.specs.Prelude.{◌&&◌, ◌≤◌}
use Rattle.std.specs.Option.{option_map}
use Rattle.std.proofs.Math.Path.{fun_ext}
use Rattle.std.proofs.lemmas.Bool.{eqb-true}
use Rattle.eden_model.specs.declared.errno.Errno.{Errno}
use Rattle.eden_model.specs.declared.errno.Errno.TheVariants.{ENOENT, EEXIST, EINVAL, ENOTEMPTY}
use Rattle.eden_model.specs.declared.node.Node.{Node}
use Rattle.eden_model.specs.declared.node.Node.TheVariants.{File}
use Rattle.eden_oracle.specs.declared.change.Change.{Change}
use Rattle.eden_oracle.specs.declared.change.Change.TheVariants as change
use Rattle.eden_model.specs.declared.request.Request.{Request}
use Rattle.eden_model.specs.declared.request.Request.TheVariants as ask
use Rattle.eden_model.specs.declared.reply.Reply.{Reply}
use Rattle.eden_model.specs.declared.reply.Reply.TheVariants as say
use Rattle.eden_oracle.specs.Changes.{Gives, Answers, AnswersHere, changed_tree, Tells}
use Rattle.eden_model.specs.Limits.{most_data}
use Rattle.eden_model.specs.Paths.{path_eq, is_root}
use Rattle.eden_model.specs.Trees.{Path, Tree, Reach, Silent, Here, reach}
use Rattle.eden_model.specs.Operations.{Meets, Says, Refuses, Whether, Unless, At, Writes, Adds, Moves, Replaces, is_dir, is_front, put, edit, with_content, written, after}
use Rattle.eden_model.proofs.CallerLemmas.{met_here, path_eq-Decides, patch_is_write}

abbrev pub Answer : Type 0
Answer = Option (Reply × Change)

-- ---- the walk and the tests before

pub here_gives : (F : Tree) (p : Path) (n : Node) (H : Node → Reply → Type 0) (next : Reply → Tree) (o : Answer) → reach F p ≡ Here n → Gives (H n) F next o → Gives (At F p H) F next o
here_gives F p n H next o e g = subst (λ (x : Reach). Gives (Meets x (Refuses ENOENT) H) F next o) (sym e) g

pub at_node : {E : Type 0} (res : Result Answer E) (F : Tree) (p : Path) (n : Node) (H : Node → Reply → Type 0) (q : Request) → reach F p ≡ Here n
    → IfOk res (AnswersHere p n H q) → IfOk res (Gives (At F p H) F (after F q))
at_node (Ok o) F p n H q e h = here_gives F p n H (after F q) o e (h F (met_here F p n e).1)
at_node (Err x) F p n H q e h = h

pub past_test : (P : Reply → Type 0) (F : Tree) (next : Reply → Tree) (o : Answer) (b : Bool) (e : Errno) → b ≡ false → Gives P F next o → Gives (Unless b e P) F next o
past_test P F next o b e is g = subst (λ (x : Bool). Gives (Unless x e P) F next o) (sym is) g

pub past_test_ok : {E : Type 0} (res : Result Answer E) (P : Reply → Type 0) (F : Tree) (next : Reply → Tree) (b : Bool) (e : Errno) → b ≡ false → IfOk res (Gives P F next)
    → IfOk res (Gives (Unless b e P) F next)
past_test_ok (Ok o) P F next b e is g = past_test P F next o b e is g
past_test_ok (Err x) P F next b e is g = g

-- ---- a refusal, no answer, and an answer by what may go

pub refused_gives : (P : Reply → Type 0) (F : Tree) (q : Request) (e : Errno) (o : Answer) → o ≡ Some (say.Err e, change.Keep) → P (say.Err e) → Gives P F (after F q) o
refused_gives P F q e o is p = subst (Gives P F (after F q)) (sym is) (p, refl)

pub gives_by : (P : Reply → Type 0) (F : Tree) (next : Reply → Tree) (o : Answer) (r : Option Reply) → option_map (λ a. a.0) o ≡ r → IfSome o (λ a. changed_tree F a.1 ≡ next a.0) → Tells P r
    → Gives P F next o
gives_by P F next None r e c t = subst (Tells P) (sym e) t
gives_by P F next (Some a) r e c t = (subst (Tells P) (sym e) t, c)

-- ---- a write that is a patch

pub patched : {E : Type 0} (res : Result Answer E) (F : Tree) (p : Path) (offset : ℕ) (bytes : List ℕ) → length bytes ≤ most_data
    → IfOk res (Answers F (ask.Patch p offset bytes)) → IfOk res (Answers F (ask.Write p offset bytes))
patched (Ok None) F p offset bytes few none = λ r says. none r ((patch_is_write F p offset bytes r few).0.1 says)
patched (Ok (Some a)) F p offset bytes few given = let is = patch_is_write F p offset bytes a.0 few in (is.0.0 given.0, given.1 ∙ is.1)
patched (Err x) F p offset bytes few h = h

-- ---- a write without bytes

same_at : (F : Tree) (p q : Path) (o : Option Node) (b : Bool) → path_eq p q ≡ b → F p ≡ o → F q ≡ cond b o (F q)
same_at F p q o true e at = ap F (sym ((path_eq-Decides p q).0 e)) ∙ at
same_at F p q o false e at = refl

same_put : (F : Tree) (p : Path) (o : Option Node) → F p ≡ o → F ≡ put F p o
same_put F p o at = fun_ext (λ q. same_at F p q o (path_eq p q) refl at)

same_content : (offset : ℕ) (c : Option (List ℕ)) → c ≡ option_map (written offset []) c
same_content offset None = refl
same_content offset (Some b) = refl

nothing_written : (F : Tree) (p : Path) (offset : ℕ) (x : Bool) (c : Option (List ℕ)) → F p ≡ Some (File x c) → F ≡ edit F p (with_content (option_map (written offset [])))
nothing_written F p offset x c at = same_put F p _
    (at ∙ ap (λ (d : Option (List ℕ)). Some (File x d)) (same_content offset c) ∙ sym (ap (option_map (with_content (option_map (written offset [])))) at))

pub empty_write : (offset : ℕ) (bytes : List ℕ) (n : Node) (p : Path) (x : Bool) (c : Option (List ℕ)) → n ≡ File x c → bytes ≡ [] → (F : Tree) → F p ≡ Some n
    → Writes offset bytes n (say.Count 0) × (F ≡ edit F p (with_content (option_map (written offset bytes))))
empty_write offset bytes n p x c is none F at = (
  subst (λ (m : Node). Writes offset bytes m (say.Count 0)) (sym is) (subst (λ (bs : List ℕ). Writes offset bs (File x c) (say.Count 0)) (sym none) refl),
  subst (λ (bs : List ℕ). F ≡ edit F p (with_content (option_map (written offset bs)))) (sym none) (nothing_written F p offset x c (at ∙ ap (λ (m : Node). Some m) is)),
)

pub no_items : (xs : List ℕ) → eqb (length xs) 0 ≡ true → xs ≡ []
no_items [] e = refl
no_items (x ∷ xs) e = let k : length (x ∷ xs) ≡ 0 = eqb-true _ _ e in absurd (omega arith)

-- ---- additions

adds_is : (F : Tree) (p : Path) (x : Reach) → is_root p ≡ false → reach F p ≡ x → Meets x (Says say.Ok) (λ n. Refuses EEXIST) ≡ Adds F p
adds_is F p x root e =
    ap (λ (y : Reach). Meets y (Says say.Ok) (λ n. Refuses EEXIST)) (sym e)
    ∙ ap (λ (b : Bool). Unless b EEXIST (Meets (reach F p) (Says say.Ok) (λ n. Refuses EEXIST))) (sym root)

pub adds_by : (F : Tree) (p : Path) (x : Reach) (r : Reply) → is_root p ≡ false → reach F p ≡ x → Meets x (Says say.Ok) (λ n. Refuses EEXIST) r → Adds F p r
adds_by F p x r root e h = subst (λ (P : Reply → Type 0). P r) (adds_is F p x root e) h

pub adds_silent : (F : Tree) (p : Path) → is_root p ≡ false → reach F p ≡ Silent → (r : Reply) → ¬ Adds F p r
adds_silent F p root e r h = subst (λ (P : Reply → Type 0). P r) (sym (adds_is F p Silent root e)) h

-- ---- rename

module _ (F : Tree) (from to : Path) (n : Node) (d : Bool) (dir : d ≡ is_dir n) (other : path_eq from to ≡ false) (inside : (is_dir n && is_front from to) ≡ false) where
  abbrev last : Reply → Type 0
  last = Meets (reach F to) (Says say.Ok) (Replaces F to (is_dir n))

  past_two : Unless (is_front to from) ENOTEMPTY last ≡ Moves F from to n
  past_two =
      ap (λ (x : Bool). Unless x EINVAL (Unless (is_front to from) ENOTEMPTY last)) (sym inside)
      ∙ ap (λ (x : Bool). Whether x (Says say.Ok) (Unless (is_dir n && is_front from to) EINVAL (Unless (is_front to from) ENOTEMPTY last))) (sym other)

  pub moves_refused : is_front to from ≡ true → Moves F from to n (say.Err ENOTEMPTY)
  moves_refused e = subst (λ (P : Reply → Type 0). P (say.Err ENOTEMPTY)) past_two (subst (λ (x : Bool). Unless x ENOTEMPTY last (say.Err ENOTEMPTY)) (sym e) refl)

  pub moves_is : is_front to from ≡ false → Meets (reach F to) (Says say.Ok) (Replaces F to d) ≡ Moves F from to n
  moves_is e =
      ap (λ (x : Bool). Meets (reach F to) (Says say.Ok) (Replaces F to x)) dir
      ∙ ap (λ (x : Bool). Unless x ENOTEMPTY last) (sym e) ∙ past_two

pub met_tells : (F : Tree) (to : Path) (n : Node) (d b : Bool) (o : Option Reply) → reach F to ≡ Here n → d ≡ b → Tells (Replaces F to b n) o
    → Tells (Meets (reach F to) (Says say.Ok) (Replaces F to d)) o
met_tells F to n d b o e dir h =
    subst (λ (x : Reach). Tells (Meets x (Says say.Ok) (Replaces F to d)) o) (sym e) (subst (λ (x : Bool). Tells (Replaces F to x n) o) (sym dir) h)
