-- Told lists whose numbers rise.
use Rattle.std.proofs.Common.{◌≡◌, ℕ, suc, ◌+◌, ◌≤◌, List, [], ◌∷◌, ◌++◌, refl, arith}
use Rattle.eden_model.specs.declared.request.Request.{Request}
use Rattle.eden_model.specs.declared.reply.Reply.{Reply}
use Rattle.eden_shared.specs.declared.account.Told.{Told}
use Rattle.eden_shared.specs.Accounts.{told_as}
use Rattle.eden_shared.specs.Passes.{Rises}

pub rises_below : (least : ℕ) (ts : List Told) (floor floor' : ℕ) → floor ≤ floor' → Rises least ts floor → Rises least ts floor'
rises_below least [] floor floor' le r = omega arith
rises_below least (t ∷ ts) floor floor' le r = (r.0, rises_below (suc t.number) ts floor floor' le r.1)

pub rises_push : (least : ℕ) (ts : List Told) (floor n : ℕ) (q : Request) (r : Reply) → floor ≤ n → Rises least ts floor → Rises least (ts ++ told_as n q r ∷ []) (n + 1)
rises_push least [] floor n q r le rises = (omega arith, omega arith)
rises_push least (t ∷ ts) floor n q r le rises = (rises.0, rises_push (suc t.number) ts floor n q r le rises.1)

rises_past : (least : ℕ) (ts : List Told) (floor : ℕ) → Rises least ts floor → least ≤ floor
rises_past least [] floor r = r
rises_past least (t ∷ ts) floor r = (let low = r.0 in let high = rises_past (suc t.number) ts floor r.1 in omega (arith, low, high))

-- below no number there is none
pub none_told : (ts : List Told) (floor : ℕ) → floor ≤ 1 → Rises 1 ts floor → ts ≡ []
none_told [] floor le r = refl
none_told (t ∷ ts) floor le r = absurd (let low = r.0 in let high = rises_past (suc t.number) ts floor r.1 in omega (arith, low, high))
