use Rattle.std.proofs.Common.{◌≡◌, ap, ◌∙◌}
use Rattle.sha1.specs.Sha1.{sha1}
use Rattle.eden_object.specs.Frames.{frame, word_of}
use Rattle.eden_object.specs.Objects.{IsBody}
use Rattle.eden_object.specs.Objects.IsFirstCause.{too_many_bytes, other_digest, no_frame, too_long_body, other_word, no_body}
use Rattle.eden_object.proofs.CheckLemmas.{both, same_digest, same_word}
use Rattle.eden_object.proofs.checks.body_of.Goals as goal
use Rattle.eden_object.proofs.checks.body_of.Goals.{Else-ne, Else-ne-2}

-- past the test of the digest it is the id
digest_is : (c : Else-ne) → sha1 c.args.framed.now ≡ c.args.id.bytes
digest_is c = (same_digest _ _ _ _ c.ne.ensures c.id_of.ensures).0 c.if-ne.false

-- past the test of the word the bytes are a frame of the kind
frame_is : (c : Else-ne-2) → c.args.framed.now ≡ frame (word_of c.args.kind) c.in-Some.body.now
frame_is c =
    let word = (same_word _ _ _ c.ne-2.ensures).0 c.if-ne-2.false ∙ c.word_of.ensures in
    c.in-Some.ensures ∙ ap (λ w. frame w c.in-Some.body.now) word

pub returns-then-framed-gt-FRAMED_LIMIT-clause-cause : goal.returns-then-framed-gt-FRAMED_LIMIT-clause-cause
returns-then-framed-gt-FRAMED_LIMIT-clause-cause c = too_many_bytes c.if-framed-gt-FRAMED_LIMIT.true

pub returns-then-ne-clause-cause : goal.returns-then-ne-clause-cause
returns-then-ne-clause-cause c = other_digest c.if-framed-gt-FRAMED_LIMIT.false ((same_digest _ _ _ _ c.ne.ensures c.id_of.ensures).1 c.if-ne.true)

pub returns-in_default-clause-cause : goal.returns-in_default-clause-cause
returns-in_default-clause-cause c =
    let digest = digest_is (goal.at.returns-in_default-clause-cause c).Else-ne in
    no_frame c.if-framed-gt-FRAMED_LIMIT.false digest c.in_default.ensures

pub returns-then-body-gt-BODY_LIMIT-clause-cause : goal.returns-then-body-gt-BODY_LIMIT-clause-cause
returns-then-body-gt-BODY_LIMIT-clause-cause c =
    let digest = digest_is (goal.at.returns-then-body-gt-BODY_LIMIT-clause-cause c).Else-ne in
    too_long_body c.if-framed-gt-FRAMED_LIMIT.false digest _ _ c.in-Some.ensures c.if-body-gt-BODY_LIMIT.true

pub returns-then-ne-2-clause-cause : goal.returns-then-ne-2-clause-cause
returns-then-ne-2-clause-cause c =
    let digest = digest_is (goal.at.returns-then-ne-2-clause-cause c).Else-ne in
    let differ = rw c.word_of.ensures at ((same_word _ _ _ c.ne-2.ensures).1 c.if-ne-2.true) in
    other_word c.if-framed-gt-FRAMED_LIMIT.false digest _ _ c.in-Some.ensures c.if-body-gt-BODY_LIMIT.false differ

pub returns-then-not-is_body-clause-cause : goal.returns-then-not-is_body-clause-cause
returns-then-not-is_body-clause-cause c =
    let at = goal.at.returns-then-not-is_body-clause-cause c in
    let none = λ (h : IsBody c.args.kind c.in-Some.body.now). both _ (c.is_body.ensures.1 h) c.if-not-is_body.true in
    no_body c.if-framed-gt-FRAMED_LIMIT.false (digest_is at.Else-ne) _ (frame_is at.Else-ne-2) c.if-body-gt-BODY_LIMIT.false none

pub returns-clause-ok : goal.returns-clause-ok
returns-clause-ok c = record {
  digest = digest_is (goal.at.returns-clause-ok c).Else-ne;
  is = frame_is (goal.at.returns-clause-ok c).Else-ne-2;
  short = c.if-body-gt-BODY_LIMIT.false;
  grammar = c.is_body.ensures.0 c.if-not-is_body.false;
}
