-- What proofs of other crates cite.
use Rattle.std.proofs.Common.{◌≡◌, ◌≤◌, ℕ, Bool, true, false, cond, List, Option, Some, None, Result, Ok, Err, refl, ap, ◌∙◌, arith}
use Rattle.eden_model.specs.declared.fault.Cause.{Cause}
use Rattle.eden_model.specs.declared.fault.StartFault.{StartFault}
use Rattle.eden_model.specs.declared.id.Key.{Key}
use Rattle.eden_model.specs.declared.reply.Reply.{Reply}
use Rattle.eden_model.specs.declared.request.Request.{Request}
use Rattle.eden_model.specs.Trees.{Path}
use Rattle.eden_import.specs.Keys.{has_key}
use Rattle.eden_import.specs.Queue.{Queue, Mark, next_key, after_take, after_failure, after_failed}
use Rattle.eden_import.proofs.CallerLemmas.{quit_rest, passes_keep_flight}
use Rattle.eden_mount.specs.declared.events.Turned.{Turned}
use Rattle.eden_mount.specs.declared.events.Turned.TheVariants.{Done, Wait, Idle}
use Rattle.eden_mount.specs.declared.events.Arrived.{Arrived}
use Rattle.eden_mount.specs.declared.events.Arrived.TheVariants.{Stored, Refused, Stray}
use Rattle.eden_mount.specs.Tables.{Table}
use Rattle.eden_mount.specs.Core.{Core}
use Rattle.eden_mount.specs.Replying.{Replied, attempted, uncopied, failed}
use Rattle.eden_mount.specs.Steps.{Starts, Turns, Takes, Arrives, Fails, LetsGo, IsSynced}
use Rattle.eden_mount.specs.Serving.{Stays}

-- no number is lost where the next one is the same
same_next : (a b : ℕ) → b ≡ a → a ≤ b
same_next a b is = omega arith

no_less : (a b c : ℕ) → a ≤ b → b ≤ c → a ≤ c
no_less a b c low high = omega arith

module _ {T : Type 0} (A : Table T) where
  -- what a mount was opened with stays, where nothing happens, and from one event to the next
  pub stays_same : (m : Core T) → Stays A m m
  stays_same m = record { commit = refl; next = same_next (A.next m.table) (A.next m.table) refl; passes = refl; limit = refl }

  pub stays_on : (m k n : Core T) → Stays A m k → Stays A k n → Stays A m n
  stays_on m k n s t = record {
    commit = t.commit ∙ s.commit;
    next = no_less (A.next m.table) (A.next k.table) (A.next n.table) s.next t.next;
    passes = t.passes ∙ s.passes;
    limit = t.limit ∙ s.limit;
  }

  -- .. and where the table is the same
  pub stays_at : (m n : Core T) → n.table ≡ m.table → n.queue.passes ≡ m.queue.passes → n.limit ≡ m.limit → Stays A m n
  stays_at m n table passes limit = record { commit = ap A.commit table; next = same_next (A.next m.table) (A.next n.table) (ap A.next table); passes = passes; limit = limit }

  -- ---- .. at each event

  pub start_stays : (m n : Core T) (c : ℕ) (q : Request) (r : Result (Unit {0}) StartFault) → Starts m c q r n → Stays A m n
  start_stays m n c q (Ok u) (free, few, is) = stays_at m n (ap (λ (x : Core T). x.table) is) (ap (λ (x : Core T). x.queue.passes) is) (ap (λ (x : Core T). x.limit) is)
  start_stays m n c q (Err f) (why, is) = stays_at m n (ap (λ (x : Core T). x.table) is) (ap (λ (x : Core T). x.queue.passes) is) (ap (λ (x : Core T). x.limit) is)

  replied_commit : (honest : Type 0) (copies : Bool) (t u : T) (q : Request) (mark : Option Mark) (r : Reply) → Replied A honest copies t q mark r u → A.commit u ≡ A.commit t
  replied_commit honest copies t u q mark r (attempted done) = done.commit
  replied_commit honest copies t u q mark r (uncopied lacking found done large memory) = done.commit
  replied_commit honest copies t u q mark r (failed k x needs marked was) = needs.commit

  replied_next : (honest : Type 0) (copies : Bool) (t u : T) (q : Request) (mark : Option Mark) (r : Reply) → Replied A honest copies t q mark r u → A.next t ≤ A.next u
  replied_next honest copies t u q mark r (attempted done) = done.next
  replied_next honest copies t u q mark r (uncopied lacking found done large memory) = done.next
  replied_next honest copies t u q mark r (failed k x needs marked was) = needs.next

  -- a reply leaves the commit, and gives no number again
  pub replied_stays : (honest : Type 0) (copies : Bool) (t b u : T) (q : Request) (mark : Option Mark) (r : Reply) → A.commit b ≡ A.commit t → A.next b ≡ A.next t
      → Replied A honest copies b q mark r u → (A.commit u ≡ A.commit t) × (A.next t ≤ A.next u)
  replied_stays honest copies t b u q mark r commit next replied = (
    replied_commit honest copies b u q mark r replied ∙ commit,
    no_less (A.next t) (A.next b) (A.next u) (same_next (A.next t) (A.next b) next) (replied_next honest copies b u q mark r replied),
  )

  pub turn_stays : (honest : Type 0) (copies : Bool) (m n : Core T) (c : ℕ) (t : Turned) → Turns A honest copies m c t n → Stays A m n
  turn_stays honest copies m n c (Done k r) (s, pends, number, is, told) =
      let table = replied_stays honest copies m.table told.begun n.table s.request _ r told.ticks.commit told.ticks.next told.replied in
      record {
        commit = table.0;
        next = table.1;
        passes = ap (λ (x : Core T). x.queue.passes) is ∙ (quit_rest c (after_failure c m.queue)).1;
        limit = ap (λ (x : Core T). x.limit) is;
      }
  turn_stays honest copies m n c (Wait k) (s, pends, is, waits) = record {
    commit = waits.awaits.needs.commit ∙ waits.ticks.commit;
    next = no_less (A.next m.table) (A.next waits.begun) (A.next n.table) (same_next (A.next m.table) (A.next waits.begun) waits.ticks.next) waits.awaits.needs.next;
    passes = ap (λ (x : Core T). x.queue.passes) is ∙ (passes_keep_flight (after_failure c m.queue) k c).2.1;
    limit = ap (λ (x : Core T). x.limit) is;
  }
  turn_stays honest copies m n c Idle (none, ticks, is) = record {
    commit = ticks.commit;
    next = same_next (A.next m.table) (A.next n.table) ticks.next;
    passes = ap (λ (x : Core T). x.queue.passes) is;
    limit = ap (λ (x : Core T). x.limit) is;
  }

  taken_passes : (q : Queue) (o : Option Key) → (after_take o q).passes ≡ q.passes
  taken_passes q None = refl
  taken_passes q (Some k) = refl

  pub take_stays : (m n : Core T) (o : Option Key) → Takes m o n → Stays A m n
  take_stays m n o (next, is) =
      stays_at m n (ap (λ (x : Core T). x.table) is) (ap (λ (x : Core T). x.queue.passes) is ∙ taken_passes m.queue (next_key m.queue)) (ap (λ (x : Core T). x.limit) is)

  pub arrival_stays : (m n : Core T) (k : Key) (bytes : List ℕ) (a : Arrived) → Arrives A m k bytes a n → Stays A m n
  arrival_stays m n k bytes Stored (flies, keeps, is) = record {
    commit = keeps.2.commit;
    next = same_next (A.next m.table) (A.next n.table) keeps.2.next;
    passes = ap (λ (x : Core T). x.queue.passes) is;
    limit = ap (λ (x : Core T). x.limit) is;
  }
  arrival_stays m n k bytes (Refused x) (flies, why, is) = stays_at m n (ap (λ (y : Core T). y.table) is) (ap (λ (y : Core T). y.queue.passes) is) (ap (λ (y : Core T). y.limit) is)
  arrival_stays m n k bytes Stray (grounded, is) = stays_at m n (ap (λ (y : Core T). y.table) is) (ap (λ (y : Core T). y.queue.passes) is) (ap (λ (y : Core T). y.limit) is)

  failed_passes : (q : Queue) (k : Key) (x : Cause) (b : Bool) → (cond b (after_failed k x q) q).passes ≡ q.passes
  failed_passes q k x true = refl
  failed_passes q k x false = refl

  pub failure_stays : (m n : Core T) (k : Key) (x : Cause) (b : Bool) → Fails m k x b n → Stays A m n
  failure_stays m n k x b (flies, is) =
      stays_at m n (ap (λ (y : Core T). y.table) is) (ap (λ (y : Core T). y.queue.passes) is ∙ failed_passes m.queue k x (has_key k m.queue.flight)) (ap (λ (y : Core T). y.limit) is)

  pub unload_stays : (honest : Type 0) (m n : Core T) (p : Path) (age gone : ℕ) → LetsGo A honest m p age gone n → Stays A m n
  unload_stays honest m n p age gone (unloads, is) = record {
    commit = unloads.commit;
    next = same_next (A.next m.table) (A.next n.table) unloads.next;
    passes = ap (λ (x : Core T). x.queue.passes) is;
    limit = ap (λ (x : Core T). x.limit) is;
  }

  pub sync_stays : (honest : Type 0) (m n : Core T) (went : Bool) → IsSynced A honest m went n → Stays A m n
  sync_stays honest m n went (syncs, is) = record {
    commit = syncs.commit;
    next = same_next (A.next m.table) (A.next n.table) syncs.next;
    passes = ap (λ (x : Core T). x.queue.passes) is;
    limit = ap (λ (x : Core T). x.limit) is;
  }
