use Rattle.std.proofs.Common.{arith, ◌≡◌, ℕ, [], Option, Some, None, refl, sym, subst}
use Rattle.std.proofs.lemmas.Grind.{common_steps}
use Rattle.eden_fuse_shown.specs.Waiting.{Table as Waits}
use Rattle.eden_fuse_shown.specs.Showing.{StoresAll, first_error}
use Rattle.eden_fuse_shown.proofs.storing.store_all.Goals as goal

-- the first error of all is the first of those behind the one that there is
first_of : (before one others why : Option ℕ) → why ≡ first_error before one → first_error before (first_error one others) ≡ first_error why others
first_of None one others why is = subst (λ (w : Option ℕ). first_error one others ≡ first_error w others) (sym is) refl
first_of (Some errno) one others why is = subst (λ (w : Option ℕ). Some errno ≡ first_error w others) (sym is) refl

-- .. and stays it where nothing is left
stays : (why : Option ℕ) → first_error why None ≡ why
stays None = refl
stays (Some errno) = refl

pub nodes-preserved : goal.nodes-preserved
nodes-preserved g c = λ end others rest.
    let answers = g.M.Mount.answers in
    let one = c.store.result in
    let more : StoresAll answers c.args.nodes.now c.nodes.left.entries c.nodes.mount (first_error one others) end =
    subst (λ (ws : Waits). StoresAll answers c.args.nodes.now ws c.nodes.mount (first_error one others) end) (sym c.in-Some.ensures.removal)
    (one, others, c.store.new.mount, c.store.ensures, rest, refl) in
    subst (λ (why : Option ℕ). StoresAll answers c.args.nodes.now c.args.waits c.args.mount.now why end)
    (first_of c.nodes.why one others c.first_error-why.result c.first_error-why.ensures) (c.nodes.invariant end (first_error one others) more)

pub returns : goal.returns
returns g c =
    let answers = g.M.Mount.answers in
    let left : c.nodes.left.entries ≡ [] = grind (arith, common_steps) in
    let none : StoresAll answers c.args.nodes.now c.nodes.left.entries c.nodes.mount None c.nodes.mount =
    subst (λ (ws : Waits). StoresAll answers c.args.nodes.now ws c.nodes.mount None c.nodes.mount) (sym left) (refl, refl) in
    subst (λ (why : Option ℕ). StoresAll answers c.args.nodes.now c.args.waits c.args.mount.now why c.nodes.mount) (stays c.nodes.why)
    (c.nodes.invariant c.nodes.mount None none)
