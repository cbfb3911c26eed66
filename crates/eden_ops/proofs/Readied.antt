-- A directory that is made ready to go along with its entry: what stays meanwhile.
use Rattle.std.proofs.Common.{◌≡◌, [], ◌∷◌, ◌++◌, Option, Some, None, Result, Ok, Err, IfErr, OnOk, refl, sym, ap, ◌∙◌, subst, inl, inr, append_assoc}
use Rattle.std.proofs.lemmas.Option.{none-some}
use Rattle.eden_model.specs.declared.fault.Fault.{Fault}
use Rattle.eden_model.specs.declared.world.World.{Ghosts}
use Rattle.eden_model.specs.Paths.{behind_of}
use Rattle.eden_model.specs.Trees.{Name, Path}
use Rattle.eden_model.proofs.CallerLemmas.{behind_sound, behind_back}
use Rattle.eden_overlay.specs.declared.files.Files.{Ghosts as Files}
use Rattle.eden_tree.specs.Directory.{Row}
use Rattle.eden_coupling.specs.Chains.{IsLoadedAt, IsUnsavedAt, NoneMarked, StaysLoaded}
use Rattle.eden_inode.specs.Tables.{Table, shows, ShowsSameNumbers}
use Rattle.eden_inode.specs.Trails.{KeepsPlaces}
use Rattle.eden_inode.proofs.CallerLemmas.{keeps_same, places_same}
use Rattle.eden_materialise.specs.Faults.{IsStoreFault}
use Rattle.eden_ops.specs.Carrying.{StaysToThere}
use Rattle.eden_ops.specs.Letting.{LetsGo}
use Rattle.eden_ops.specs.Relocating.{Readies}
use Rattle.eden_ops.proofs.Going.{goes_fewer, loaded_elsewhere}
use Rattle.eden_ops.proofs.Names.{names_same, fewer_same}
use Rattle.eden_ops.proofs.Relocation.{not_whole}
use Rattle.eden_ops.proofs.Roots.{root_left, root_same}
use Rattle.eden_ops.proofs.Stamped.{left_stamps, stamps_same}
use Rattle.eden_ops.proofs.GoingOn.{places_alike}

-- ---- what is loaded

pub stays_same : (p : Path) (x z : Row) → z ≡ x → StaysToThere p x z
stays_same p x z is q in_them loaded = subst (IsLoadedAt q) (sym is) loaded

pub stays_on : (p : Path) (x y z : Row) → StaysToThere p x y → StaysToThere p y z → StaysToThere p x z
stays_on p x y z a b q in_them loaded = b q in_them (a q in_them loaded)

pub stays_all : (p : Path) (x z : Row) → StaysLoaded x z → StaysToThere p x z
stays_all p x z all q in_them loaded = all q loaded

-- what isn't below a path isn't below a longer one
not_longer : (p q : Path) (n : Name) → behind_of p q ≡ None → behind_of (p ++ n ∷ []) q ≡ None
not_longer p q n none = by (behind_of (p ++ n ∷ []) q) refl where
  by : (o : Option Path) → behind_of (p ++ n ∷ []) q ≡ o → o ≡ None
  by None is = refl
  by (Some r) is =
      let split : q ≡ p ++ n ∷ r = behind_sound (p ++ n ∷ []) q r is ∙ append_assoc p (n ∷ []) r in
      absurd (none-some (n ∷ r) (sym none ∙ ap (behind_of p) split ∙ behind_back p (n ∷ r)))

pub stays_inside : (p : Path) (n : Name) (x z : Row) → LetsGo (p ++ n ∷ []) x z → StaysToThere p x z
stays_inside p n x z g q (inl off) loaded = loaded_elsewhere (p ++ n ∷ []) x z g q (not_longer p q n off) loaded
stays_inside p n x z g q (inr is) loaded = loaded_elsewhere (p ++ n ∷ []) x z g q (ap (behind_of (p ++ n ∷ [])) is ∙ not_whole p n) loaded

pub stays_there : (p : Path) (x z : Row) → StaysToThere p x z → IsLoadedAt p x → IsLoadedAt p z
stays_there p x z stays = stays p (inr refl)

-- ---- what else is as it was

module _ {W F : Type 0} (w : Ghosts W) (f : Files F W) (s : Table F) where
  -- nothing was done
  pub readies_still : (a : Result (Unit {0}) Fault) → IfErr a (IsStoreFault (f.failures s.files) (f.failures s.files)) → Readies w f s s a
  readies_still a fault = record {
    shown = λ h. refl;
    numbers = λ h q. refl;
    names = names_same s.root s.root refl;
    fewer = fewer_same s.root s.root refl;
    stamps = stamps_same s.root s.root refl;
    marks = λ q unsaved. unsaved;
    root = root_same s.root s.root refl;
    fault = fault;
    counted = on_any a;
    next = refl;
    clock = refl;
    places = places_same s s refl (keeps_same s.root);
  }
    where
      on_any : (b : Result (Unit {0}) Fault) → OnOk b (f.failures s.files ≡ f.failures s.files)
      on_any (Ok u) = refl
      on_any (Err e) = tt

  -- what is loaded, marks and all, is as it was: something was stored beside
  module _ (t : Table F) (a : Result (Unit {0}) Fault) (shown : w.honest → shows w f t ≡ shows w f s) (numbers : w.honest → ShowsSameNumbers f s t) (rest : t ≡ record s { files = t.files }) where
    pub readies_stored : IfErr a (IsStoreFault (f.failures s.files) (f.failures t.files)) → OnOk a (f.failures t.files ≡ f.failures s.files) → Readies w f s t a
    readies_stored fault counted =
        let root = ap (λ (u : Table F). u.root) rest in
        record {
          shown = shown;
          numbers = numbers;
          names = names_same s.root t.root root;
          fewer = fewer_same s.root t.root root;
          stamps = stamps_same s.root t.root root;
          marks = λ q unsaved. subst (IsUnsavedAt q) root unsaved;
          root = root_same s.root t.root root;
          fault = fault;
          counted = counted;
          next = ap (λ (u : Table F). u.next) rest;
          clock = ap (λ (u : Table F). u.clock) rest;
          places = places_alike s t root (ap (λ (u : Table F). u.changes) rest);
        }

  module _ (t : Table F) (a : Result (Unit {0}) Fault) (shown : w.honest → shows w f t ≡ shows w f s) (numbers : w.honest → ShowsSameNumbers f s t) (marks : NoneMarked s.root t.root)
      (fault : IfErr a (IsStoreFault (f.failures s.files) (f.failures t.files))) (counted : OnOk a (f.failures t.files ≡ f.failures s.files))
      (rest : (t.next ≡ s.next) × (t.clock ≡ s.clock)) (places : KeepsPlaces s t) where
    -- directories went
    pub readies_gone : (p : Path) → LetsGo p s.root t.root → Readies w f s t a
    readies_gone p g = record {
      shown = shown;
      numbers = numbers;
      names = g.names;
      fewer = goes_fewer p s.root t.root g;
      stamps = left_stamps p s.root t.root g;
      marks = marks;
      root = root_left p s.root t.root g;
      fault = fault;
      counted = counted;
      next = rest.0;
      clock = rest.1;
      places = places;
    }
