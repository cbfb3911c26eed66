-- Attempts that go on where an earlier one waited.
use Rattle.std.proofs.Common.{◌≡◌, ◌≤◌, ◌+◌, ◌*◌, ℕ, Bool, true, false, List, [], ◌∷◌, length, cond, sym, subst, arith}
use Rattle.eden_model.specs.declared.request.Request.{Request}
use Rattle.eden_model.specs.declared.request.Request.TheVariants as ask
use Rattle.eden_model.specs.Requests.{paths_of}
use Rattle.eden_model.specs.Trees.{Path}
use Rattle.eden_tree.specs.Directory.{Row}
use Rattle.eden_inode.specs.Trails.{Trail, Leads}
use Rattle.eden_ops.specs.declared.place.Place.{Place}
use Rattle.eden_ops.specs.Looks.{IsLook, IsChange}
use Rattle.eden_ops.specs.Trails.{Counts, first_of, walked_of, is_present, remembered, is_second, components}

-- a request of one path goes by the positions of that one
leads_one : (p : Path) (b : Bool) (is : List ℕ) (x : Row) → Leads (walked_of b (p ∷ [])) is x → Leads p is x
leads_one p false is x h = h
leads_one p true [] x h = tt
leads_one p true (i ∷ is) x h = absurd h

pub leads_look : (q : Request) (b : Bool) (is : List ℕ) (x : Row) → IsLook q → Leads (walked_of b (paths_of q)) is x → Leads (first_of (paths_of q)) is x
leads_look (ask.Kind p) b is x one h = leads_one p b is x h
leads_look (ask.Stat p) b is x one h = leads_one p b is x h
leads_look (ask.Read p offset count) b is x one h = leads_one p b is x h
leads_look (ask.ReadLink p) b is x one h = leads_one p b is x h
leads_look (ask.List p after limit) b is x one h = leads_one p b is x h
leads_look (ask.Write p offset bytes) b is x one h = absurd one
leads_look (ask.Patch p offset bytes) b is x one h = absurd one
leads_look (ask.Truncate p size) b is x one h = absurd one
leads_look (ask.Create p) b is x one h = absurd one
leads_look (ask.SetExec p exec) b is x one h = absurd one
leads_look (ask.Mkdir p) b is x one h = absurd one
leads_look (ask.Symlink p target) b is x one h = absurd one
leads_look (ask.Unlink p) b is x one h = absurd one
leads_look (ask.Rmdir p) b is x one h = absurd one
leads_look (ask.Rename from to) b is x one h = absurd one

pub leads_change : (q : Request) (b : Bool) (is : List ℕ) (x : Row) → IsChange q → Leads (walked_of b (paths_of q)) is x → Leads (first_of (paths_of q)) is x
leads_change (ask.Kind p) b is x one h = absurd one
leads_change (ask.Stat p) b is x one h = absurd one
leads_change (ask.Read p offset count) b is x one h = absurd one
leads_change (ask.ReadLink p) b is x one h = absurd one
leads_change (ask.List p after limit) b is x one h = absurd one
leads_change (ask.Write p offset bytes) b is x one h = leads_one p b is x h
leads_change (ask.Patch p offset bytes) b is x one h = leads_one p b is x h
leads_change (ask.Truncate p size) b is x one h = leads_one p b is x h
leads_change (ask.Create p) b is x one h = leads_one p b is x h
leads_change (ask.SetExec p exec) b is x one h = leads_one p b is x h
leads_change (ask.Mkdir p) b is x one h = leads_one p b is x h
leads_change (ask.Symlink p target) b is x one h = leads_one p b is x h
leads_change (ask.Unlink p) b is x one h = leads_one p b is x h
leads_change (ask.Rmdir p) b is x one h = leads_one p b is x h
leads_change (ask.Rename from to) b is x one h = absurd one

-- what one path counts, all do
first_few : (ps : List Path) → length (first_of ps) ≤ components ps
first_few [] = omega arith
first_few (p ∷ ps) = omega arith

pub counts_all : (ps : List Path) (t u : Trail) → Counts (first_of ps) t u → u.compared ≤ t.compared + 32 * components ps
counts_all ps t u few = let all = first_few ps in omega (arith, few, all)

pub counts_one : (ps : List Path) (t u : Trail) → Counts (first_of ps) t u → (p : Path) → ps ≡ p ∷ [] → Counts p t u
counts_one ps t u few p is = subst (λ (qs : List Path). Counts (first_of qs) t u) is few

-- what is found at this count of changes leads along a path then
pub leads_found : (ps : List Path) (changes : ℕ) (x : Row) (p : Place) → Leads (walked_of p.second ps) p.trail.positions x
    → Leads (walked_of (is_second changes p) ps) (remembered changes p) x
leads_found ps changes x p h =
    elim (is_present changes p) as (λ b. Leads (walked_of (cond b p.second false) ps) (cond b p.trail.positions []) x) [ true ↦ h | false ↦ tt ]

-- what is recalled leads as what was remembered
pub leads_recalled : (ps : List Path) (b s : Bool) (is ks : List ℕ) (x : Row) → b ≡ s → is ≡ ks → Leads (walked_of s ps) ks x → Leads (walked_of b ps) is x
leads_recalled ps b s is ks x second positions h =
    subst (λ (a : Bool). Leads (walked_of a ps) is x) (sym second) (subst (λ (js : List ℕ). Leads (walked_of s ps) js x) (sym positions) h)
