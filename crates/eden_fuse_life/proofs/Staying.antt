-- What a mount was opened with, through a session with the kernel.
use Rattle.std.proofs.Common.{◌≡◌, ◌⊎◌, ℕ, zero, suc, Bool, true, false, List, [], ◌∷◌, Option, Some, None, Result, Ok, Err, ◌+◌, ◌++◌, inl, inr, refl, sym, ap, subst}
use Rattle.std.specs.List.{slice_get}
use Rattle.eden_model.specs.declared.fault.CallFault.{CallFault}
use Rattle.eden_model.specs.declared.id.Id.{Id}
use Rattle.eden_model.specs.declared.request.Request.{Request}
use Rattle.eden_model.specs.declared.reply.Reply.{Reply}
use Rattle.eden_model.specs.Trees.{Name, Path}
use Rattle.eden_source.specs.Fetching.{Answer}
use Rattle.eden_mount.specs.Tables.{Table}
use Rattle.eden_mount.specs.Serving.{Desk, Stays, SyncsDesk}
use Rattle.eden_mount.proofs.CallerLemmas.{stays_same, stays_on, sync_stays}
use Rattle.eden_stdio_life.specs.Calls.{CallAnswers}
use Rattle.eden_fuse_format.specs.declared.message.Message.{Message}
use Rattle.eden_fuse_format.specs.declared.message.Message.TheVariants.{Request as Asks, Unknown, Malformed, Unframed}
use Rattle.eden_fuse_format.specs.declared.structs.ReadIn.{ReadIn}
use Rattle.eden_fuse_format.specs.Asked.{Asked, seen}
use Rattle.eden_fuse_format.specs.Asked.{Asked as asked}
use Rattle.eden_fuse_meaning.specs.declared.step.Outcome.{Outcome}
use Rattle.eden_fuse_meaning.specs.declared.step.Step.{Step}
use Rattle.eden_fuse_meaning.specs.declared.step.Step.TheVariants.{Ask, Tell}
use Rattle.eden_fuse_meaning.specs.Steps.{next}
use Rattle.eden_fuse_meaning.specs.Hiding.{hide, put_back, list_hidden, is_hidden}
use Rattle.eden_fuse_session.specs.declared.turning.Turned.{Turned}
use Rattle.eden_fuse_session.specs.Turns.{Told, Line, Does}
use Rattle.eden_fuse_session.specs.Sessions.{Serving, Serves, answer_room}
use Rattle.eden_fuse_shown.specs.declared.mount.Unheard.{Unheard}
use Rattle.eden_fuse_shown.specs.declared.mount.Unheard.TheVariants as unheard
use Rattle.eden_fuse_shown.specs.Running.{Hears, Leads}
use Rattle.eden_fuse_shown.specs.declared.sorts.Sort.{Sort}
use Rattle.eden_fuse_shown.specs.declared.sorts.Sort.TheVariants as sort
use Rattle.eden_fuse_shown.specs.Listing.{Entry, page_of_handle, kept_at, last_at}
use Rattle.eden_fuse_shown.specs.Naming.{is_reserved, last_name}
use Rattle.eden_fuse_shown.specs.Opens.{opens_of, is_last}
use Rattle.eden_fuse_shown.specs.declared.extents.Gap.{Gap}
use Rattle.eden_fuse_shown.specs.Reading.{AsksPart, Gathers, ReadsOn, reading}
use Rattle.eden_fuse_shown.specs.Waiting.{Extent, extent_of, gap_of, may_wait}
use Rattle.eden_fuse_shown.specs.Waiting.{Table as Waits}
use Rattle.eden_fuse_shown.specs.Showing.{Showing, Runs, RunsFrom, ReadsKept, ReadsDirectory, RemovesBy, Restores, MovesOver, ReplacesBy, LetsGo, LetsGoLast, ClosesFile}
use Rattle.eden_fuse_shown.specs.Showing.{storing, data_of, IsStored, SettlesWith, Unless, Once, WaitsIf, Finds, BridgesIf, BridgesElse, WritesAnew, WritesApart, WritesFile, Empties, StoresAll}
use Rattle.eden_fuse_shown.specs.Showing.{ClearsIf, ClearsRow, ClearsRows, Clears, Starts, Heeds, Takes, rows_in, Shows, Syncs, ShowsBy, sort_of}
use Rattle.eden_fuse_shown.specs.Showing.{Serves as ServesAs}

module _ {S : Type 0} (fetched : S → Id → Answer → S → Type 0) {T : Type 0} (A : Table T) (honest : Type 0) (copies : Bool) where
  abbrev answers : Desk T S → Request → Result Reply CallFault → Desk T S → Type 0
  answers = CallAnswers fetched A honest copies

  abbrev syncs : Desk T S → Bool → Desk T S → Type 0
  syncs = SyncsDesk A honest

  abbrev Kept : Desk T S → Desk T S → Type 0
  Kept d e = Stays A d.core e.core

  kept_same : (d e : Desk T S) → e ≡ d → Kept d e
  kept_same d e is = subst (λ (x : Desk T S). Stays A d.core x.core) (sym is) (stays_same A d.core)

  kept_on : (d e h : Desk T S) → Kept d e → Kept e h → Kept d h
  kept_on d e h x y = stays_on A d.core e.core h.core x y

  either : {X Y Z : Type 0} → (X → Z) → (Y → Z) → X ⊎ Y → Z
  either f g (inl x) = f x
  either f g (inr y) = g y

  heard_keeps : (d e : Desk T S) (q : Request) (r : Result Reply Unheard) → Hears answers d q r e → Kept d e
  heard_keeps d e q (Ok reply) called = called.1.stays
  heard_keeps d e q (Err (unheard.Fault fault)) called = kept_same d e called.2.1
  heard_keeps d e q (Err (unheard.Blocked obstacle)) called = called.1.stays
  heard_keeps d e q (Err unheard.Memory) (reply, called) = called.1.stays

  leads_keep : (replies : List Reply) (step : Step) (d e : Desk T S) (r : Result Outcome Unheard) → Leads answers step replies d r e → Kept d e
  leads_keep [] (Tell o) d e r (same, is) = kept_same d e same
  leads_keep (x ∷ xs) (Tell o) d e r h = absurd h
  leads_keep [] (Ask q awaited) d e r (why, heard, is) = heard_keeps d e q (Err why) heard
  leads_keep (x ∷ xs) (Ask q awaited) d e r (u, heard, rest) = kept_on d u e (heard_keeps d u q (Ok x) heard)
      (either (λ h. leads_keep xs (next awaited x) u e r h) (λ h. kept_same u e h.1) rest)

  abbrev Folder : Type 0
  Folder = Showing (Desk T S)

  folder_same : (old new : Folder) → new ≡ old → Kept old.mount new.mount
  folder_same old new is = kept_same old.mount new.mount (ap (λ (x : Folder). x.mount) is)

  runs_keep : (node : ℕ) (a : Asked) (last : Option Name) (old new : Folder) (t : Told) → Runs answers node a last old t new → Kept old.mount new.mount
  runs_keep node a last old new t r =
      either (λ s. folder_same old new s.0) (λ g. leads_keep g.comes.0 g.step old.mount new.mount g.end g.comes.1) r

  runs_from_keep : (node : ℕ) (a : Asked) (last : Option (Option Name)) (old new : Folder) (t : Told) → RunsFrom answers node a last old t new
      → Kept old.mount new.mount
  runs_from_keep node a None old new t (same, is) = folder_same old new same
  runs_from_keep node a (Some last) old new t r = runs_keep node a last old new t r

  kept_keeps : (rows : Option (List Entry)) (node : ℕ) (a : Asked) (s : ReadIn) (old new : Folder) (t : Told) → ReadsKept answers rows node a s old t new
      → Kept old.mount new.mount
  kept_keeps (Some rows) node a s old new t (same, told) = folder_same old new same
  kept_keeps None node a s old new t r = runs_from_keep node a (last_at (page_of_handle old.pages s.fh) s.offset) old new t r

  reads_keep : (node : ℕ) (a : Asked) (s : ReadIn) (old new : Folder) (t : Told) → ReadsDirectory answers node a s old t new → Kept old.mount new.mount
  reads_keep node a s old new t r =
      either (λ e. folder_same old new e.0) (λ g. kept_keeps (kept_at (page_of_handle old.pages s.fh) s.offset) node a s old new t g) r

  -- ---- what waits is stored

  stored_keeps : (shown : Folder) (node : ℕ) (e : Extent) (d h : Desk T S) (why : Option ℕ) → IsStored answers shown.nodes node e d why h → Kept d h
  stored_keeps shown node e d h why r = either (λ s. kept_same d h s.1) (λ s. leads_keep s.3.0 (storing s.0 e) d h s.1 s.3.1) r

  settled_keeps : (e : Option Extent) (node : ℕ) (old new : Folder) (why : Option ℕ) → SettlesWith answers e node old why new → Kept old.mount new.mount
  settled_keeps None node old new why r = folder_same old new r.1
  settled_keeps (Some e) node old new why r = stored_keeps old node e old.mount new.mount why r.stored

  stores_all_keep : (shown : Folder) (ws : Waits) (d h : Desk T S) (why : Option ℕ) → StoresAll answers shown.nodes ws d why h → Kept d h
  stores_all_keep shown [] d h why (all, same) = kept_same d h same
  stores_all_keep shown (w ∷ ws) d h why (one, others, u, stored, rest, is) =
      kept_on d u h (stored_keeps shown w.0 w.1 d u one stored) (stores_all_keep shown ws u h others rest)

  -- ---- what lies between is read

  asks_keep : (p : Path) (from count : ℕ) (d e : Desk T S) (part : Option (List ℕ)) → AsksPart answers p from count d part e → Kept d e
  asks_keep p from count d e part r = either (λ s. kept_same d e s.1) (λ s. leads_keep s.1.0 (reading p from count) d e s.0 s.1.1) r

  reads_on_keep : (p : Path) (from : ℕ) (d : Desk T S) (n : ℕ) (bytes : List ℕ) (e : Desk T S) → ReadsOn answers p from d n bytes e → Kept d e
  reads_on_keep p from d n bytes e ReadsOn.none = kept_same d e refl
  reads_on_keep p from d n bytes e (ReadsOn.part done count front behind u v before asks) =
      kept_on d u e (reads_on_keep p from d done front u before) (asks_keep p (from + done) count u e (Some behind) asks)

  gathers_keep : (p : Path) (from count : ℕ) (d : Desk T S) (found : Option (List ℕ)) (e : Desk T S) → Gathers answers p from count d found e → Kept d e
  gathers_keep p from count d (Some bytes) e r = reads_on_keep p from d count bytes e r
  gathers_keep p from count d None e (done, more, front, part, u, before, rest) =
      kept_on d u e (reads_on_keep p from d done front u before) (either (λ s. asks_keep p (from + done) more u e part s) (λ s. kept_same u e s) rest)

  finds_keep : (gap : Option Gap) (shown : Folder) (node : ℕ) (d : Desk T S) (found : Option (List ℕ)) (e : Desk T S)
      → Finds answers gap shown.nodes node d found e → Kept d e
  finds_keep None shown node d found e r = kept_same d e r.1
  finds_keep (Some gap) shown node d found e r =
      either (λ s. kept_same d e s.1) (λ s. gathers_keep s.0 gap.from gap.len d found e s.2) r

  -- .. before anything else is done, which keeps it
  module _ (Done : Folder → Told → Folder → Type 0) (keeps : (old new : Folder) (t : Told) → Done old t new → Kept old.mount new.mount) where
    unless_keeps : (why : Option ℕ) (old new : Folder) (t : Told) → Unless answers why Done old t new → Kept old.mount new.mount
    unless_keeps None old new t r = keeps old new t r
    unless_keeps (Some errno) old new t (same, is) = folder_same old new same

    once_keeps : (o : Option ℕ) (old new : Folder) (t : Told) → Once answers o Done old t new → Kept old.mount new.mount
    once_keeps None old new t r = keeps old new t r
    once_keeps (Some node) old new t (why, mid, settles, rest) =
        kept_on old.mount mid.mount new.mount (settled_keeps (extent_of old.waits node) node old mid why settles) (unless_keeps why mid new t rest)

    waits_if_keeps : (b : Bool) (node offset : ℕ) (bytes : List ℕ) (old new : Folder) (t : Told) → WaitsIf answers b node offset bytes Done old t new
        → Kept old.mount new.mount
    waits_if_keeps true node offset bytes old new t r = either (λ j. kept_same old.mount new.mount j.mount) (λ s. folder_same old new s.0) r
    waits_if_keeps false node offset bytes old new t r = keeps old new t r

    bridges_if_keeps : (found : Option (List ℕ)) (node offset : ℕ) (bytes : List ℕ) (old new : Folder) (t : Told)
        → BridgesIf answers found node offset bytes Done old t new → Kept old.mount new.mount
    bridges_if_keeps None node offset bytes old new t r = keeps old new t r
    bridges_if_keeps (Some between) node offset bytes old new t r = either (λ j. kept_same old.mount new.mount j.mount) (λ s. keeps old new t s) r

    bridges_keep : (node offset : ℕ) (bytes : List ℕ) (old new : Folder) (t : Told) → BridgesElse answers node offset bytes Done old t new
        → Kept old.mount new.mount
    bridges_keep node offset bytes old new t (found, mid, looks, rest) =
        kept_on old.mount mid.mount new.mount (finds_keep (gap_of old.waits node offset bytes) old node old.mount found mid.mount looks.finds)
        (bridges_if_keeps found node offset bytes mid new t rest)

  looks_keep : (node : ℕ) (a : Asked) (old new : Folder) (t : Told) → Once answers (Some node) (Runs answers node a None) old t new
      → Kept old.mount new.mount
  looks_keep node a old new t r = once_keeps (Runs answers node a None) (runs_keep node a None) (Some node) old new t r

  writes_anew_keep : (node offset : ℕ) (a : Asked) (old new : Folder) (t : Told) → WritesAnew answers node offset a old t new → Kept old.mount new.mount
  writes_anew_keep node offset a old new t r =
      waits_if_keeps (Runs answers node a None) (runs_keep node a None) (may_wait old.waits node offset (data_of a)) node offset (data_of a) old new t r

  writes_apart_keep : (node offset : ℕ) (a : Asked) (old new : Folder) (t : Told) → WritesApart answers node offset a old t new → Kept old.mount new.mount
  writes_apart_keep node offset a old new t r =
      bridges_keep (Once answers (Some node) (WritesAnew answers node offset a))
      (once_keeps (WritesAnew answers node offset a) (writes_anew_keep node offset a) (Some node)) node offset (data_of a) old new t r

  writes_keep : (node offset : ℕ) (a : Asked) (old new : Folder) (t : Told) → WritesFile answers node offset a old t new → Kept old.mount new.mount
  writes_keep node offset a old new t r =
      waits_if_keeps (WritesApart answers node offset a) (writes_apart_keep node offset a) (may_wait old.waits node offset (data_of a)) node offset (data_of a) old new t r

  empties_keep : (node : ℕ) (old new : Folder) → Empties answers node old new → Kept old.mount new.mount
  empties_keep node old new (why, mid, settles, emptied) =
      kept_on old.mount mid.mount new.mount (settled_keeps (extent_of old.waits node) node old mid why settles) (kept_same mid.mount new.mount emptied.mount)

  -- ---- what is removed or replaced while it is open

  removes_keep : (held : Option ℕ) (node : ℕ) (a : Asked) (old new : Folder) (t : Told) → RemovesBy answers held node a old t new → Kept old.mount new.mount
  removes_keep None node a old new t r = runs_keep node a None old new t r
  removes_keep (Some id) node a old new t r = runs_keep node (hide id (last_name a)) None old new t r

  restores_keep : (id dir : ℕ) (n : Name) (t : Told) (old new : Folder) → Restores answers id dir n t old new → Kept old.mount new.mount
  restores_keep id dir n t old new r =
      either (λ s. folder_same old new s.1) (λ b. runs_keep 1 (put_back id dir n) None old new b.1.0 b.1.1) r

  moves_keep : (id dir node : ℕ) (a : Asked) (hid : Told) (old new : Folder) (t : Told) → MovesOver answers id dir node a hid old t new
      → Kept old.mount new.mount
  moves_keep id dir node a hid old new t r =
      either (λ s. folder_same old new s.2) (λ m. kept_on old.mount m.1.0.mount new.mount (runs_keep node a None old m.1.0 t m.1.1)
      (restores_keep id dir (last_name a) t m.1.0 new m.1.2)) r

  replaces_keep : (held : Option ℕ) (dir node : ℕ) (a : Asked) (old new : Folder) (t : Told) → ReplacesBy answers held dir node a old t new
      → Kept old.mount new.mount
  replaces_keep None dir node a old new t r = runs_keep node a None old new t r
  replaces_keep (Some id) dir node a old new t (hid, mid, runs, over) =
      kept_on old.mount mid.mount new.mount (runs_keep dir (hide id (last_name a)) None old mid hid runs) (moves_keep id dir node a hid mid new t over)

  lets_go_keep : (n : Option Name) (old new : Folder) → LetsGo answers n old new → Kept old.mount new.mount
  lets_go_keep None old new r = folder_same old new r
  lets_go_keep (Some n) old new (t, runs) = runs_keep 1 (asked.Unlink n) None old new t runs

  lets_last_keep : (last : Bool) (node : ℕ) (old new : Folder) → LetsGoLast answers last node old new → Kept old.mount new.mount
  lets_last_keep last node old new r =
      either (λ s. folder_same old new s.1)
      (λ g. kept_on old.mount g.1.0.mount new.mount (empties_keep node old g.1.0 g.1.1) (lets_go_keep _ g.1.0 new g.1.2)) r

  closes_keep : (node : ℕ) (old new : Folder) (t : Told) → ClosesFile answers node old t new → Kept old.mount new.mount
  closes_keep node old new t (is, closed) =
      kept_on old.mount closed.0.mount new.mount (kept_same old.mount closed.0.mount closed.1.mount)
      (lets_last_keep (is_last (opens_of old.opens node)) node closed.0 new closed.2)

  -- ---- what another run left

  clears_if_keep : (b : Bool) (n : Name) (old new : Folder) → ClearsIf answers b n old new → Kept old.mount new.mount
  clears_if_keep true n old new r = lets_go_keep (Some n) old new r
  clears_if_keep false n old new r = folder_same old new r

  clears_row_keep : (row : Option Entry) (old new : Folder) → ClearsRow answers row old new → Kept old.mount new.mount
  clears_row_keep None old new r = folder_same old new r
  clears_row_keep (Some e) old new r = clears_if_keep (is_hidden e.0) e.0 old new r

  clears_rows_keep : (n : ℕ) (rows : List Entry) (old new : Folder) → ClearsRows answers n rows old new → Kept old.mount new.mount
  clears_rows_keep zero rows old new r = folder_same old new r
  clears_rows_keep (suc n) rows old new (mid, first, row) =
      kept_on old.mount mid.mount new.mount (clears_rows_keep n rows old mid first) (clears_row_keep (slice_get rows n) mid new row)

  clears_keep : (old new : Folder) → Clears answers old new → Kept old.mount new.mount
  clears_keep old new (end, mid, listed, rows) =
      kept_on old.mount mid.mount new.mount (leads_keep listed.comes.0 list_hidden old.mount mid.mount end listed.comes.1)
      (clears_rows_keep _ (rows_in end) mid new rows)

  starts_keep : (node : ℕ) (a : Asked) (old new : Folder) (t : Told) → Starts answers node a old t new → Kept old.mount new.mount
  starts_keep node a old new t r =
      either (λ s. folder_same old new s.0)
      (λ g. kept_on old.mount g.0.mount new.mount (clears_keep old g.0 g.1) (runs_keep node a None g.0 new t g.2)) r

  -- ---- the disk

  syncs_keep : (old new : Folder) (t : Told) → Syncs syncs old t new → Kept old.mount new.mount
  syncs_keep old new t r = sync_stays A honest old.mount.core new.mount.core r.went r.asked.0

  -- ---- each message

  serves_one_keep : (s : Sort) (node : ℕ) (a : Asked) (old new : Folder) (t : Told) → ServesAs answers syncs s node a old t new → Kept old.mount new.mount
  serves_one_keep sort.Remove node a old new t (held, is, r) = removes_keep held node a old new t r
  serves_one_keep (sort.Replace dir) node a old new t (held, is, r) = replaces_keep held dir node a old new t r
  serves_one_keep sort.Start node a old new t r = starts_keep node a old new t r
  serves_one_keep (sort.Write offset) node a old new t r = writes_keep node offset a old new t r
  serves_one_keep sort.Look node a old new t r = looks_keep node a old new t r
  serves_one_keep sort.Sync node a old new t r = once_keeps (Syncs syncs) syncs_keep (Some node) old new t r
  serves_one_keep (sort.One n) node a old new t r = runs_keep node a None old new t r
  serves_one_keep sort.Batch node a old new t r = runs_keep node a None old new t r
  serves_one_keep (sort.On s) node a old new t r = runs_keep node a None old new t r
  serves_one_keep sort.Close node a old new t r = runs_keep node a None old new t r
  serves_one_keep sort.Plain node a old new t r = runs_keep node a None old new t r

  heeds_keep : (b : Bool) (s : Sort) (node : ℕ) (a : Asked) (old new : Folder) (t : Told) → Heeds answers syncs b s node a old t new → Kept old.mount new.mount
  heeds_keep true s node a old new t (same, is) = folder_same old new same
  heeds_keep false s node a old new t r = serves_one_keep s node a old new t r

  takes_keep : (s : Sort) (node : ℕ) (a : Asked) (old new : Folder) (t : Told) → Takes answers syncs s node a old t new → Kept old.mount new.mount
  takes_keep s node a old new t r = either (λ e. folder_same old new e.0) (λ g. heeds_keep (is_reserved node a) s node a old new t g) r

  shows_keep : (sort : Sort) (node : ℕ) (a : Asked) (old new : Folder) (t : Told) → ShowsBy answers syncs sort old node a t new → Kept old.mount new.mount
  shows_keep (sort.One n) node a old new t loses = kept_same old.mount new.mount loses.mount
  shows_keep sort.Batch node a old new t loses = kept_same old.mount new.mount loses.mount
  shows_keep (sort.On s) node a old new t r = reads_keep node a s old new t r
  shows_keep sort.Close node a old new t r = closes_keep node old new t r
  shows_keep sort.Start node a old new t r = takes_keep sort.Start node a old new t r
  shows_keep sort.Remove node a old new t r = takes_keep sort.Remove node a old new t r
  shows_keep (sort.Replace dir) node a old new t r = takes_keep (sort.Replace dir) node a old new t r
  shows_keep (sort.Write offset) node a old new t r = takes_keep (sort.Write offset) node a old new t r
  shows_keep sort.Look node a old new t r = takes_keep sort.Look node a old new t r
  shows_keep sort.Sync node a old new t r = takes_keep sort.Sync node a old new t r
  shows_keep sort.Plain node a old new t r = takes_keep sort.Plain node a old new t r

  does_keep : (m : Message) (old new : Folder) (l k : Line) (room : ℕ) (r : Turned) → Does (Shows answers syncs) m old new l k room r → Kept old.mount new.mount
  does_keep (Asks header operation) old new l k room r (told, shows, is) = shows_keep (sort_of (seen operation)) header.nodeid (seen operation) old new told shows
  does_keep (Unknown unique) old new l k room r (same, is) = folder_same old new same
  does_keep (Malformed unique) old new l k room r (same, is) = folder_same old new same
  does_keep Unframed old new l k room r d = folder_same old new d.0

  -- from the first message to the last
  serves_keep : (messages : List (List ℕ)) (s t : Serving (Showing (Desk T S))) → Serves (Shows (CallAnswers fetched A honest copies) (SyncsDesk A honest)) messages s t
      → Stays A s.0.mount.core t.0.mount.core
  serves_keep [] s t is = folder_same s.0 t.0 (ap (λ (x : Serving Folder). x.0) (sym is))
  serves_keep (m ∷ ms) s t (u, r, turn, rest) =
      kept_on s.0.mount u.0.mount t.0.mount (does_keep turn.0 s.0 u.0 s.1 u.1 answer_room r turn.2) (serves_keep ms u t rest)

  -- .. and all that waited was stored
  pub serves_and_stores_keep : (messages : List (List ℕ)) (s t : Serving (Showing (Desk T S))) (why : Option ℕ) (h : Desk T S)
      → Serves (Shows (CallAnswers fetched A honest copies) (SyncsDesk A honest)) messages s t
      → StoresAll (CallAnswers fetched A honest copies) t.0.nodes t.0.waits t.0.mount why h → Stays A s.0.mount.core h.core
  serves_and_stores_keep messages s t why h served stored =
      kept_on s.0.mount t.0.mount h (serves_keep messages s t served) (stores_all_keep t.0 t.0.waits t.0.mount h why stored)
