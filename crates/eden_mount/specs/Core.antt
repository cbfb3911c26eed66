-- What contracts see of a mount.
use Rattle.std.specs.Prelude.{◌≡◌, ◌<◌, ◌≤◌, ◌-◌, ◌+◌, ℕ, List, [], ◌∷◌, ◌++◌, length, slice_set, slice_index_or, Option, Some, None}
use Rattle.std.specs.Option.{is_some}
use Rattle.std.specs.List.{count_by}
use Rattle.eden_model.specs.declared.entry.Entry.{Entry}
use Rattle.eden_model.specs.declared.id.Key.{Key}
use Rattle.eden_model.specs.declared.request.Request.{Request}
use Rattle.eden_model.specs.declared.reply.Reply.{Reply}
use Rattle.eden_model.specs.Histories.{entry}
use Rattle.eden_import.specs.Queue.{Queue, IsPass, after_await, after_quit, after_failure}
use Rattle.eden_mount.specs.declared.seats.Pending.{Pending}

pub record Core (T : Type 0) : Type 0 where
  pub table : T
  pub queue : Queue
  -- the pending request of each pass
  pub seats : List (Option Pending)
  pub history : List Entry
  -- how long the history may become
  pub limit : ℕ

-- the pending request of a pass; of a number that is no pass's it says nothing
abbrev pub seat_of : {T : Type 0} → ℕ → Core T → Option Pending
seat_of c m = slice_index_or m.seats (c - 1) None

-- the pass has this request pending
abbrev pub Pends : {T : Type 0} → ℕ → Pending → Core T → Type 0
Pends c s m = (1 ≤ c) × (seat_of c m ≡ Some s)

-- there is such a pass, and it has nothing pending
abbrev pub IsFree : {T : Type 0} → ℕ → Core T → Type 0
IsFree c m = IsPass c m.queue × (seat_of c m ≡ None)

abbrev pub pending_count : List (Option Pending) → ℕ
pending_count seats = count_by is_some seats

-- entries and pending requests together
abbrev pub taken_room : {T : Type 0} → Core T → ℕ
taken_room m = length m.history + pending_count m.seats

-- the least pass with a request pending
pub record IsLeastBusy {T : Type 0} (m : Core T) (c : ℕ) : Type 0 where
  pub seat : Pending
  pub pends : Pends c seat m
  pub least : (i : ℕ) → i < c → (s : Pending) → ¬ Pends i s m

-- ---- the steps

abbrev pub pending_from : {T : Type 0} → Request → Core T → Pending
pending_from q m = record { request = q; since = length m.history }

-- the pass has the request pending
abbrev pub after_start : {T : Type 0} → ℕ → Request → Core T → Core T
after_start c q m = record m { seats = slice_set m.seats (c - 1) (Some (pending_from q m)) }

-- the pass, whose mark was handed out, has nothing pending, and the history has its entry
abbrev pub after_done : {T : Type 0} → ℕ → Request → Reply → T → Core T → Core T
after_done c q r t m = record {
  table = t;
  queue = after_quit c (after_failure c m.queue);
  seats = slice_set m.seats (c - 1) None;
  history = m.history ++ entry c q r ∷ [];
  limit = m.limit;
}

-- the pass, whose mark was handed out, waits for the key
abbrev pub after_wait : {T : Type 0} → ℕ → Key → T → Core T → Core T
after_wait c k t m = record m { table = t; queue = after_await k c (after_failure c m.queue) }
