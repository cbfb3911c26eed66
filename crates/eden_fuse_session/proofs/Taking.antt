-- Lemmas on a session: what came of its messages so far.
use Rattle.std.proofs.Common.{◌≡◌, ℕ, List, [], ◌∷◌, ◌++◌, Some, None, Ok, refl, sym, ap, subst, append_assoc, ◌∙◌}
use Rattle.eden_fuse_format.specs.declared.message.Header.{Header}
use Rattle.eden_fuse_format.specs.Asked.{Asked}
use Rattle.eden_fuse_session.specs.declared.turning.Turned.{Turned}
use Rattle.eden_fuse_session.specs.Sending.{Known, Gives, IsAtEnd}
use Rattle.eden_fuse_session.specs.Turns.{Told, Turn}
use Rattle.eden_fuse_session.specs.Sessions.{Serving, Serves, MessageSession, answer_room}

-- nothing was received
gives_none : (w : Known) → Gives w w []
gives_none None = refl
gives_none (Some ms) = (ms, refl, refl)

gives_on : (old rest : List (List ℕ)) (w : Known) (ms ns : List (List ℕ)) → old ≡ ms ++ rest → Gives (Some rest) w ns → Gives (Some old) w (ms ++ ns)
gives_on old rest w ms ns is (last, more, left) = (last, is ∙ ap (λ (x : List (List ℕ)). ms ++ x) more ∙ sym (append_assoc ms ns last), left)

-- more were
gives_more : (u v w : Known) (ms ns : List (List ℕ)) → Gives u v ms → Gives v w ns → Gives u w (ms ++ ns)
gives_more None v w ms ns a b = subst (λ (x : Known). Gives x w ns) a b
gives_more (Some old) v w ms ns (rest, is, left) b = gives_on old rest w ms ns is (subst (λ (x : Known). Gives x w ns) left b)

module _ {S : Type 0} (answers : S → Header → Asked → Told → S → Type 0) where
  -- one more message had its turn
  serves_more : (ms : List (List ℕ)) (m : List ℕ) (s t u : Serving S) (r : Turned) → Serves answers ms s t
      → Turn answers m t.0 u.0 t.1 u.1 answer_room r → Serves answers (ms ++ m ∷ []) s u
  serves_more [] m s t u r same turn = (u, r, subst (λ (x : Serving S). Turn answers m x.0 u.0 x.1 u.1 answer_room r) (sym same) turn, refl)
  serves_more (n ∷ ms) m s t u r (v, e, first, rest) turn = (v, e, first, serves_more ms m v t u r rest turn)

  -- all that was received so far had its turn
  pub record Through (old new : Serving S) (waiting left : Known) : Type 0 where
    pub messages : List (List ℕ)
    pub given : Gives waiting left messages
    pub served : Serves answers messages old new

  -- none so far
  pub through_none : (s : Serving S) (w : Known) → Through s s w w
  through_none s w = record { messages = []; given = gives_none w; served = refl }

  -- no more messages came this time
  pub through_kept : (s t : Serving S) (w v x : Known) → x ≡ v → Through s t w v → Through s t w x
  through_kept s t w v x same through = subst (λ (k : Known). Through s t w k) (sym same) through

  -- one more message was received, and had its turn
  pub through_more : (s t u : Serving S) (w v x : Known) (m : List ℕ) (r : Turned) → Through s t w v → Gives v x (m ∷ [])
      → Turn answers m t.0 u.0 t.1 u.1 answer_room r → Through s u w x
  through_more s t u w v x m r through gives turn = record {
    messages = through.messages ++ m ∷ [];
    given = gives_more w v x through.messages (m ∷ []) through.given gives;
    served = serves_more through.messages m s t u r through.served turn;
  }

  -- no more will come
  pub ended : (s t : Serving S) (w v x : Known) → Through s t w v → (x ≡ v) × IsAtEnd v → MessageSession answers s t w x (Ok tt)
  ended s t w v x through end = record {
    messages = through.messages;
    given = subst (λ (k : Known). Gives w k through.messages) (sym end.0) through.given;
    served = through.served;
    ended = subst IsAtEnd (sym end.0) end.1;
  }
