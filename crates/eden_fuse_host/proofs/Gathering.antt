-- The passes of a folder after its session: there is one of each number still, and of the same mount.
use Rattle.std.proofs.Common.{◌≡◌, ℕ, zero, suc, List, [], ◌∷◌, ◌++◌, length, map, Option, Some, None, Result, refl, sym, ap, ◌∙◌}
use Rattle.std.specs.Prelude.{⊤, slice_get}
use Rattle.eden_model.specs.Numbers.{Numbers}
use Rattle.eden_model.specs.Trees.{Tree}
use Rattle.eden_shared.specs.declared.account.Terms.{Terms}
use Rattle.eden_shared.specs.Passes.{AreEach, Carried}
use Rattle.eden_fuse_session.specs.declared.receiver.Receiver.{Ghosts as Receiver}
use Rattle.eden_fuse_session.specs.declared.sender.Sender.{Ghosts as Sender}
use Rattle.eden_fuse_session.specs.declared.serving.SessionFault.{SessionFault}
use Rattle.eden_fuse_shown.specs.declared.manner.Manner.{Manner}
use Rattle.eden_fuse_host.specs.Hands.{HaveAttended, IsServed, Turning}
use Rattle.eden_fuse_host.specs.Lines.{Coming}
use Rattle.eden_fuse_host.specs.Turns.{IsTurn, beginning}

-- whose pass it is
abbrev seat : Carried → Terms × ℕ
seat p = (p.terms, p.number)

abbrev seats : List Carried → List (Terms × ℕ)
seats ps = map seat ps

module _ {V O : Type 0} (v : Receiver V) (o : Sender O) (Comes : Coming) (Turns : Turning) where
  attended_seats : (ps ps' : List Carried) (told : Result ⊤ SessionFault) → HaveAttended v o Comes Turns ps ps' told → seats ps' ≡ seats ps
  attended_seats [] [] told h = refl
  attended_seats [] (p' ∷ ps') told h = absurd h
  attended_seats (p ∷ ps) [] told h = absurd h
  attended_seats (p ∷ ps) (p' ∷ ps') told (said, later, first, rest, is) =
      let number : p'.number ≡ p.number = first.looked.seat.0 in let terms : p'.terms ≡ p.terms = first.looked.seat.1 in
      let more : seats ps' ≡ seats ps = attended_seats ps ps' later rest in cc (number, terms, more)

seats_behind : (ps : List Carried) (p : Carried) → seats (ps ++ p ∷ []) ≡ seats ps ++ seat p ∷ []
seats_behind [] p = refl
seats_behind (q ∷ ps) p = ap (λ (l : List (Terms × ℕ)). seat q ∷ l) (seats_behind ps p)

module _ {V O : Type 0} (v : Receiver V) (o : Sender O) (Comes : Coming) (honest : Type 0) (opening : Tree) (N : Numbers) (m : Manner) where
  pub served_seats : (ps ps' : List Carried) (said : Result ⊤ SessionFault) (why : Option ℕ) → IsServed v o Comes honest opening N m ps ps' said why → seats ps' ≡ seats ps
  served_seats ps ps' said why s =
      let number : s.pass'.number ≡ s.pass.number = s.shown.seat.0 in
      let terms : s.pass'.terms ≡ s.pass.terms = s.shown.seat.1 in
      let same : seat s.pass' ≡ seat s.pass = cc (number, terms) in
      let hands = attended_seats v o Comes (IsTurn honest opening N (beginning s.pass m ∷ [])) s.hands s.hands' said s.attended in
      ap seats s.after ∙ seats_behind s.hands' s.pass' ∙ ap (λ (l : List (Terms × ℕ)). l ++ seat s.pass' ∷ []) hands
      ∙ ap (λ (x : Terms × ℕ). seats s.hands ++ x ∷ []) same ∙ sym (seats_behind s.hands s.pass) ∙ ap seats (sym s.before)

count_stays : (ps ps' : List Carried) → seats ps' ≡ seats ps → length ps' ≡ length ps
count_stays [] [] same = refl
count_stays [] (p' ∷ ps') same = absurd (cc same)
count_stays (p ∷ ps) [] same = absurd (cc same)
count_stays (p ∷ ps) (p' ∷ ps') same = (let rest : seats ps' ≡ seats ps = cc same in ap suc (count_stays ps ps' rest))

-- a pass of the same seat is at this place
abbrev HasAt : List Carried → ℕ → Carried → Type 0
HasAt ps k p = (p' : Carried) × (slice_get ps k ≡ Some p') × (seat p' ≡ seat p)

has_after : (ps ps' : List Carried) (k : ℕ) (p : Carried) → seats ps' ≡ seats ps → slice_get ps k ≡ Some p → HasAt ps' k p
has_after [] ps' k p same at = absurd (let e : None ≡ Some p = at in cc e)
has_after (q ∷ ps) [] k p same at = absurd (cc same)
has_after (q ∷ ps) (q' ∷ ps') zero p same at =
    let e : Some q ≡ Some p = at in let one : q ≡ p = cc e in let seated : seat q' ≡ seat q = cc same in (q', refl, seated ∙ ap seat one)
has_after (q ∷ ps) (q' ∷ ps') (suc k) p same at = (let rest : seats ps' ≡ seats ps = cc same in has_after ps ps' k p rest at)

-- there is one of each number still
pub each_stays : (ps ps' : List Carried) (n : ℕ) → seats ps' ≡ seats ps → AreEach ps n → AreEach ps' n
each_stays ps ps' n same each = record {
  count = count_stays ps ps' same ∙ each.count;
  each = λ c least most.
      let found = each.each c least most in let there = has_after ps ps' found.1 found.0 same found.2 in
      (there.0, found.1, there.1, ap (λ (x : Terms × ℕ). x.1) there.2 ∙ found.3);
}

-- a pass that there is afterwards is of the mount of which all were
pub terms_stay : (t : Terms) (ps ps' : List Carried) (k : ℕ) (p' : Carried) → seats ps' ≡ seats ps → ((j : ℕ) (p : Carried) → slice_get ps j ≡ Some p → p.terms ≡ t)
    → slice_get ps' k ≡ Some p' → p'.terms ≡ t
terms_stay t ps ps' k p' same all at = let there = has_after ps' ps k p' (sym same) at in sym (ap (λ (x : Terms × ℕ). x.0) there.2) ∙ all k there.0 there.1
