-- A pass with which looks alone are made.
use Rattle.std.proofs.Common.{◌≡◌, ℕ, List, [], ◌∷◌, ◌++◌, sym, ap, ◌∙◌, append_assoc, append-nil}
use Rattle.std.specs.Prelude.{⊤, Result}
use Rattle.std.specs.List.{AllByRecursion}
use Rattle.eden_model.specs.declared.fault.Fault.{Fault as Cause}
use Rattle.eden_model.specs.declared.reply.Reply.{Reply}
use Rattle.eden_model.specs.declared.reply.Reply.TheVariants.{Fault}
use Rattle.eden_model.specs.declared.request.Request.{Request}
use Rattle.eden_model.specs.Numbers.{Numbers}
use Rattle.eden_model.specs.Trees.{Tree}
use Rattle.eden_shared.specs.declared.account.Told.{Told}
use Rattle.eden_shared.specs.Accounts.{told_as}
use Rattle.eden_shared.specs.Calls.{Grows}
use Rattle.eden_shared.specs.Passes.{Carried}
use Rattle.eden_fuse_format.specs.declared.message.Message.{Message}
use Rattle.eden_fuse_format.specs.declared.message.Message.TheVariants as message
use Rattle.eden_fuse_session.specs.declared.receiver.Receiver.{Ghosts as Receiver}
use Rattle.eden_fuse_session.specs.declared.sender.Sender.{Ghosts as Sender}
use Rattle.eden_fuse_session.specs.declared.serving.SessionFault.{SessionFault}
use Rattle.eden_fuse_session.specs.declared.turning.Turned.{Turned}
use Rattle.eden_fuse_session.specs.Turns.{Does, Line}
use Rattle.eden_fuse_session.specs.Sessions.{Serves, Serving, MessageSession, answer_room}
use Rattle.eden_fuse_shown.specs.Looking.{ChangesNothing}
use Rattle.eden_fuse_host.specs.Hands.{HandAnswers, IsAttended, Turning, taken_by}
use Rattle.eden_fuse_host.specs.Lines.{Coming, IsFreshLine}
use Rattle.eden_fuse_host.specs.Passing.{HasLooked, HasMetFault}

abbrev IsQuiet : Told → Type 0
IsQuiet t = ChangesNothing t.request

-- no look was made
pub looked_same : (p p' : Carried) → p' ≡ p → HasLooked p p'
looked_same p p' same = record {
  seat = (ap (λ (x : Carried). x.number) same, ap (λ (x : Carried). x.terms) same);
  looks = [];
  told = ap (λ (x : Carried). x.told) same ∙ sym (append-nil p.told);
  change_nothing = tt;
}

-- one look was made
pub looked_once : (honest : Type 0) (opening : Tree) (N : Numbers) (p p' : Carried) (t : Told) → ChangesNothing t.request → Grows honest opening N p t p' → HasLooked p p'
looked_once honest opening N p p' t quiet grown = record {
  seat = (ap (λ (x : Carried). x.number) grown.is, ap (λ (x : Carried). x.terms) grown.is);
  looks = t ∷ [];
  told = ap (λ (x : Carried). x.told) grown.is;
  change_nothing = (quiet, tt);
}

-- .. and it met a fault
pub met_once : (honest : Type 0) (opening : Tree) (N : Numbers) (p p' : Carried) (n : ℕ) (q : Request) (r : Reply) (why : Cause) → Grows honest opening N p (told_as n q r) p' → r ≡ Fault why
    → HasMetFault p p'
met_once honest opening N p p' n q r why grown is = (n, q, why, ap (λ (x : Carried). x.told) grown.is ∙ ap (λ (s : Reply). p.told ++ told_as n q s ∷ []) is)

all_quiet : (ts us : List Told) → AllByRecursion IsQuiet ts → AllByRecursion IsQuiet us → AllByRecursion IsQuiet (ts ++ us)
all_quiet [] us a b = b
all_quiet (t ∷ ts) us a b = (a.0, all_quiet ts us a.1 b)

-- looks after looks
pub looked_on : (p q r : Carried) → HasLooked p q → HasLooked q r → HasLooked p r
looked_on p q r a b = record {
  seat = (b.seat.0 ∙ a.seat.0, b.seat.1 ∙ a.seat.1);
  looks = a.looks ++ b.looks;
  told = b.told ∙ ap (λ (ts : List Told). ts ++ b.looks) a.told ∙ append_assoc p.told a.looks b.looks;
  change_nothing = all_quiet a.looks b.looks a.change_nothing b.change_nothing;
}

module _ (Turns : Turning) where
  looked_for : (m : Message) (p p' : Carried) (old new : Line) (room : ℕ) (r : Turned) → Does (HandAnswers Turns) m p p' old new room r → HasLooked p p'
  looked_for (message.Request header operation) p p' old new room r does = does.1.looked
  looked_for (message.Unknown unique) p p' old new room r does = looked_same p p' does.0
  looked_for (message.Malformed unique) p p' old new room r does = looked_same p p' does.0
  looked_for message.Unframed p p' old new room r does = looked_same p p' does.0

  -- looks alone were made for messages
  pub looked_through : (ms : List (List ℕ)) (s t : Serving Carried) → Serves (HandAnswers Turns) ms s t → HasLooked s.0 t.0
  looked_through [] s t same = looked_same s.0 t.0 (ap (λ (x : Serving Carried). x.0) (sym same))
  looked_through (m ∷ ms) s t (u, r, (is, reads, does), rest) =
      looked_on s.0 u.0 t.0 (looked_for is s.0 u.0 s.1 u.1 answer_room r does) (looked_through ms u t rest)

-- a thread's session
module _ {V O : Type 0} (v : Receiver V) (o : Sender O) (Comes : Coming) (Turns : Turning) where
  pub attended : (p p' : Carried) (receiver left : V) (sender sent : O) (said : Result ⊤ SessionFault) → Comes (v.waiting receiver) → IsFreshLine (taken_by o sender)
      → MessageSession (HandAnswers Turns) (p, taken_by o sender) (p', taken_by o sent) (v.waiting receiver) (v.waiting left) said → IsAttended v o Comes Turns p p' said
  attended p p' receiver left sender sent said whole unused s = record {
    receiver = receiver;
    left = left;
    sender = sender;
    sent = sent;
    whole = whole;
    unused = unused;
    session = s;
    looked = looked_through Turns s.messages (p, taken_by o sender) (p', taken_by o sent) s.served;
  }
