-- The ends of a server's connections, one after another.
use Rattle.std.proofs.Common.{◌≡◌, ℕ, IsErrAnd, List, [], ◌∷◌, ◌++◌, ◌+◌, length, Result, Ok, Err, inl, inr, refl, sym, subst, ap, ◌∙◌, length-append, arith}
use Rattle.std.proofs.lemmas.Bool.{false≢true}
use Rattle.std.specs.Prelude.{⊤}
use Rattle.std.specs.List.{AllByRecursion}
use Rattle.std.specs.Result.{result_and}
use Rattle.std.specs.declared.io.Read.{Ghosts as Read}
use Rattle.std.specs.declared.io.Write.{Ghosts as Write}
use Rattle.mountd.specs.declared.server.ServerFault.{ServerFault}
use Rattle.mountd.specs.declared.server.ServerFault.TheVariants as server
use Rattle.mountd.specs.Workers.{Ended, HaveEnded, IsAnswered, IsEarly, ServesObjects, first_ended}

-- an end comes behind those of the connections that were taken before
alone : (last : Ended) → result_and last (first_ended []) ≡ last
alone (Ok _) = refl
alone (Err fault) = refl

first_of_more : (ends : List Ended) (last : Ended) → first_ended (ends ++ last ∷ []) ≡ result_and (first_ended ends) last
first_of_more [] last = alone last
first_of_more (Ok _ ∷ ends) last = first_of_more ends last
first_of_more (Err fault ∷ ends) last = refl

all_of_more : {T : Type 0} (P : T → Type 0) (xs : List T) (last : T) → AllByRecursion P xs → P last → AllByRecursion P (xs ++ last ∷ [])
all_of_more P [] last all p = (p, tt)
all_of_more P (x ∷ xs) last all p = (all.0, all_of_more P xs last all.1 p)

module _ {I O : Type 0} (i : Read I) (o : Write O) where
  pub none_ended : HaveEnded i o 0 (Ok tt)
  none_ended = record { ends = []; so_many = refl; answered = tt; is = refl }

  pub one_more_ended : {T : Type 0} (workers : List T) (worker : T) (before last told : Ended) → HaveEnded i o (length workers) before → IsAnswered i o last
      → told ≡ result_and before last → HaveEnded i o (length (workers ++ worker ∷ [])) told
  one_more_ended workers worker before last told have answered is = record {
    ends = have.ends ++ last ∷ [];
    so_many = length-append have.ends (last ∷ []) ∙ ap (λ n. n + 1) have.so_many ∙ sym (length-append workers (worker ∷ []));
    answered = all_of_more _ have.ends last have.answered answered;
    is = is ∙ ap (λ e. result_and e last) have.is ∙ sym (first_of_more have.ends last);
  }

  -- nobody is served where a fault comes before a connection is taken
  pub unserved : (sessions : ℕ) (fault : ServerFault) → IsEarly fault → ServesObjects i o sessions (Err fault)
  unserved sessions (server.Open fault) early = inl (fault, refl)
  unserved sessions (server.Listen fault) early = inr record {
    taken = Err fault;
    count = 0;
    most = omega arith;
    all = λ ok. absurd (false≢true ok);
    ended = Ok tt;
    have_ended = none_ended;
    is = refl;
  }
  unserved sessions (server.Session fault) early = absurd early

  pub unserved_by : (sessions : ℕ) (fault : ServerFault) (told : Result ⊤ ServerFault) → IsErrAnd told (λ f. f ≡ fault) → IsEarly fault → ServesObjects i o sessions told
  unserved_by sessions fault (Ok _) is early = absurd is
  unserved_by sessions fault (Err f) is early = subst (λ f. ServesObjects i o sessions (Err f)) (sym is) (unserved sessions fault early)
