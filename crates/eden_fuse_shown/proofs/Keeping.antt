-- What has a hidden name, what is moved over it, and what another run left.
use Rattle.std.proofs.Common.{◌≡◌, ℕ, suc, ◌+◌, Bool, true, false, List, length, Option, None, Some, IsSome, Result, inl, inr, refl, sym, ap, subst, ◌∙◌, arith}
use Rattle.std.specs.List.{slice_get}
use Rattle.std.specs.Option.{is_some}
use Rattle.std.proofs.lemmas.Bool.{false≢true}
use Rattle.eden_model.specs.Trees.{Name}
use Rattle.eden_fuse_format.specs.Asked.{Asked}
use Rattle.eden_fuse_format.specs.declared.answer.Answer.TheVariants as answer
use Rattle.eden_fuse_nodes.specs.Tables.{place_of}
use Rattle.eden_fuse_meaning.specs.declared.step.Outcome.{Outcome}
use Rattle.eden_fuse_meaning.specs.declared.step.Step.{Step}
use Rattle.eden_fuse_meaning.specs.Hiding.{hide, list_hidden}
use Rattle.eden_fuse_session.specs.declared.service.Said.{Said}
use Rattle.eden_fuse_session.specs.declared.service.Said.TheVariants.{Nothing, Answers, Data}
use Rattle.eden_fuse_session.specs.Turns.{Told, told, IsBriefly}
use Rattle.eden_fuse_shown.specs.declared.mount.Unheard.{Unheard}
use Rattle.eden_fuse_shown.specs.Listing.{Entry}
use Rattle.eden_fuse_shown.specs.Naming.{last_name, veiled_name}
use Rattle.eden_fuse_shown.specs.Opens.{opens_of, is_last}
use Rattle.eden_fuse_shown.specs.Running.{Replying}
use Rattle.eden_fuse_shown.specs.Waiting.{gap_of, may_wait}
use Rattle.eden_fuse_shown.specs.Waiting.{Table as Waits}
use Rattle.eden_fuse_shown.specs.declared.extents.Gap.{Gap}
use Rattle.eden_fuse_shown.specs.Showing.{BridgesElse, BridgesIf, Finds, LooksBetween, Once, Settles, Unless, WaitsElse, WaitsIf}
use Rattle.eden_fuse_shown.specs.Showing.{Showing, Runs, LetsGo, Restores, ReplacesBy, IsAsked, IsClosed, Empties, ClosesFile, Clears, ClearsRow, ClearsRows, failed, refuse, rows_in, say}

-- an error is no bytes of a room
pub same_failure : (said : Said) (b c : List ℕ) → failed (told said b) ≡ true → told said c ≡ told said b
same_failure Nothing b c is = refl
same_failure (Answers a) b c is = refl
same_failure Data b c is = grind arith

pub brief_failure : (said : Said) (b c : List ℕ) → failed (told said b) ≡ true → IsBriefly said b → IsBriefly said c
brief_failure Nothing b c is brief = brief
brief_failure (Answers a) b c is brief = brief
brief_failure Data b c is brief = grind arith

module _ {S : Type 0} (answers : Replying S) where
  -- for want of memory it stays
  pub lets_stay : (n : Option Name) (s : Showing S) → LetsGo answers n s s
  lets_stay None s = refl
  lets_stay (Some n) s = (refuse 12, inl (refl, refl))

  -- what is to be replaced couldn't be hidden
  pub unmoved : (node id dir : ℕ) (a : Asked) (n : Name) (old new : Showing S) (t : Told) → n ≡ last_name a
      → Runs answers dir (hide id n) None old t new → failed t ≡ true → ReplacesBy answers (Some id) dir node a old t new
  unmoved node id dir a n old new t is hides fails =
      (t, new, subst (λ (x : Name). Runs answers dir (hide id x) None old t new) is hides, inl (fails, refl, refl))

  -- .. was hidden
  pub moved : (node id dir : ℕ) (a : Asked) (n : Name) (old mid late new : Showing S) (hid t u : Told) → n ≡ last_name a → u ≡ t
      → Runs answers dir (hide id n) None old hid mid → failed hid ≡ false → Runs answers node a None mid t late → Restores answers id dir n t late new
      → ReplacesBy answers (Some id) dir node a old u new
  moved node id dir a n old mid late new hid t u is same hides fine runs restores =
      let there : Runs answers dir (hide id (last_name a)) None old hid mid = subst (λ (x : Name). Runs answers dir (hide id x) None old hid mid) is hides in
      let back : Restores answers id dir (last_name a) t late new = subst (λ (x : Name). Restores answers id dir x t late new) is restores in
      subst (λ (x : Told). ReplacesBy answers (Some id) dir node a old x new) (sym same) (hid, mid, there, inr (fine, (late, runs, back)))

  -- a file was closed, and is open still
  pub still_open : (node : ℕ) (last : Bool) (old new : Showing S) → last ≡ is_last (opens_of old.opens node) → last ≡ false
      → IsClosed answers node old new → ClosesFile answers node old (say answer.Done) new
  still_open node last old new is still closed = (refl, (new, closed, inl (sym is ∙ still, refl)))

  -- .. for the last time
  pub closed_last : (node : ℕ) (last : Bool) (old mid late new : Showing S) → last ≡ is_last (opens_of old.opens node) → last ≡ true
      → IsClosed answers node old mid → Empties answers node mid late → LetsGo answers (veiled_name (place_of late.nodes node)) late new
      → ClosesFile answers node old (say answer.Done) new
  closed_last node last old mid late new is over closed empties goes = (refl, (mid, closed, inr (sym is ∙ over, (late, empties, goes))))

  -- one entry more
  pub clears_on : (n : ℕ) (rows : List Entry) (e : Entry) (old mid new : Showing S) → slice_get rows n ≡ Some e
      → ClearsRows answers n rows old mid → ClearsRow answers (Some e) mid new → ClearsRows answers (n + 1) rows old new
  clears_on n rows e old mid new is so_far on =
      let step : suc n ≡ n + 1 = omega arith in
      let more : ClearsRows answers (suc n) rows old new = (mid, so_far, subst (λ (x : Option Entry). ClearsRow answers x mid new) (sym is) on) in
      subst (λ (k : ℕ). ClearsRows answers k rows old new) step more

  -- all that were listed
  pub clears : (step : Step) (end : Result Outcome Unheard) (rows : List Entry) (old mid new : Showing S) → step ≡ list_hidden → rows ≡ rows_in end
      → IsAsked answers step end old mid → ClearsRows answers (length rows) rows mid new → Clears answers old new
  clears step end rows old mid new is listed asked on =
      (end, mid, subst (λ (x : Step). IsAsked answers x end old mid) is asked, subst (λ (x : List Entry). ClearsRows answers (length x) x mid new) listed on)

  -- ---- what waits is stored first

  module _ (Done : Showing S → Told → Showing S → Type 0) (node : ℕ) (old mid : Showing S) (why : Option ℕ) (settles : Settles answers node old why mid) where
    -- .. and that can't be
    pub unsettled : (errno : ℕ) (t : Told) → why ≡ Some errno → t ≡ refuse errno → Once answers (Some node) Done old t mid
    unsettled errno t is told = (why, mid, settles, subst (λ (w : Option ℕ). Unless answers w Done mid t mid) (sym is) (refl, told))

    -- .. and the rest is done
    pub settled : (t : Told) (new : Showing S) → why ≡ None → Done mid t new → Once answers (Some node) Done old t new
    settled t new is rest = (why, mid, settles, subst (λ (w : Option ℕ). Unless answers w Done mid t new) (sym is) rest)

  -- ---- what is written can't wait

  module _ (node offset : ℕ) (b bytes : List ℕ) (test : Bool) (Else : Showing S → Told → Showing S → Type 0) (old new : Showing S) (t : Told) where
    pub waits_not : bytes ≡ b → test ≡ may_wait old.waits node offset bytes → test ≡ false → Else old t new
        → WaitsElse answers node offset b Else old t new
    waits_not same is refused h =
        subst (λ (x : List ℕ). WaitsElse answers node offset x Else old t new) same
        (subst (λ (v : Bool). WaitsIf answers v node offset bytes Else old t new) (sym (sym is ∙ refused)) h)

  -- ---- what is written doesn't join what waits

  module _ (node offset : ℕ) (b bytes : List ℕ) (gap : Option Gap) (Else : Showing S → Told → Showing S → Type 0) (old mid new : Showing S) (t : Told) where
    abbrev LooksFor : Option (List ℕ) → Type 0
    LooksFor found = LooksBetween answers node gap old found mid

    looks_for : (found : Option (List ℕ)) → gap ≡ gap_of old.waits node offset bytes → LooksFor found → LooksBetween answers node (gap_of old.waits node offset bytes) old found mid
    looks_for found is looks = subst (λ (g : Option Gap). LooksBetween answers node g old found mid) is looks

    -- .. and what lies between was looked for
    pub bridges : (found : Option (List ℕ)) → bytes ≡ b → gap ≡ gap_of old.waits node offset bytes → LooksFor found
        → BridgesIf answers found node offset b Else mid t new → BridgesElse answers node offset b Else old t new
    bridges found same is looks h =
        (found, mid, subst (λ (x : List ℕ). LooksBetween answers node (gap_of old.waits node offset x) old found mid) same (looks_for found is looks), h)

    none_found : (g : Option Gap) (between : List ℕ) → Finds answers g old.nodes node old.mount (Some between) mid.mount → IsSome g
    none_found None between h = absurd (false≢true (sym (ap (λ (o : Option (List ℕ)). is_some o) h.0)))
    none_found (Some g) between h = refl

    -- where it was read, there is a gap
    pub some_gap : (between : List ℕ) → bytes ≡ b → gap ≡ gap_of old.waits node offset bytes → LooksFor (Some between) → IsSome (gap_of mid.waits node offset b)
    some_gap between same is looks =
        subst (λ (x : List ℕ). IsSome (gap_of mid.waits node offset x)) same
        (subst (λ (w : Waits). IsSome (gap_of w node offset bytes)) (sym looks.waits) (subst (λ (g : Option Gap). IsSome g) is (none_found gap between looks.finds)))
