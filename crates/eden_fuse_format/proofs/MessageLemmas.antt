-- Bytes are one message.
use Rattle.std.proofs.Common.{◌≡◌, ◌==◌, ◌∙◌, ℕ, List, [], ◌∷◌, Option, Some, refl, sym, ap}
use Rattle.std.proofs.lemmas.Option.{none-some, same_Some}
use Rattle.std.specs.List.{find}
use Rattle.eden_fuse_format.specs.declared.opcode.Opcode.{Opcode}
use Rattle.eden_fuse_format.specs.declared.opcode.Opcode.TheVariants as op
use Rattle.eden_fuse_format.specs.declared.message.Message.TheVariants.{Request, Unknown, Malformed, Unframed}
use Rattle.eden_fuse_format.specs.Opcodes.{number_of}
use Rattle.eden_fuse_format.specs.Asked.{Asked, seen, asked_by}
use Rattle.eden_fuse_format.specs.Messages.{HasOpcode, body_in}
use Rattle.eden_fuse_format.specs.Laws.{OneMessage}

-- ---- an operation is known by its number

abbrev opcodes : List Opcode
opcodes =
    op.Lookup ∷ op.Forget ∷ op.GetAttr ∷ op.SetAttr ∷ op.ReadLink ∷ op.Symlink ∷ op.MkNod ∷ op.MkDir ∷ op.Unlink ∷ op.RmDir ∷ op.Rename
    ∷ op.Link ∷ op.Open ∷ op.Read ∷ op.Write ∷ op.StatFs ∷ op.Release ∷ op.FSync ∷ op.Flush ∷ op.Init ∷ op.OpenDir ∷ op.ReadDir
    ∷ op.ReleaseDir ∷ op.FSyncDir ∷ op.Access ∷ op.Create ∷ op.Interrupt ∷ op.Destroy ∷ op.BatchForget ∷ op.Fallocate ∷ op.ReadDirPlus ∷ op.Rename2 ∷ []

abbrev opcode_in : ℕ → Option Opcode
opcode_in n = find (λ o. n == number_of o) opcodes

opcode_found : (o : Opcode) → opcode_in (number_of o) ≡ Some o
opcode_found op.Lookup = refl
opcode_found op.Forget = refl
opcode_found op.GetAttr = refl
opcode_found op.SetAttr = refl
opcode_found op.ReadLink = refl
opcode_found op.Symlink = refl
opcode_found op.MkNod = refl
opcode_found op.MkDir = refl
opcode_found op.Unlink = refl
opcode_found op.RmDir = refl
opcode_found op.Rename = refl
opcode_found op.Link = refl
opcode_found op.Open = refl
opcode_found op.Read = refl
opcode_found op.Write = refl
opcode_found op.StatFs = refl
opcode_found op.Release = refl
opcode_found op.FSync = refl
opcode_found op.Flush = refl
opcode_found op.Init = refl
opcode_found op.OpenDir = refl
opcode_found op.ReadDir = refl
opcode_found op.ReleaseDir = refl
opcode_found op.FSyncDir = refl
opcode_found op.Access = refl
opcode_found op.Create = refl
opcode_found op.Interrupt = refl
opcode_found op.Destroy = refl
opcode_found op.BatchForget = refl
opcode_found op.Fallocate = refl
opcode_found op.ReadDirPlus = refl
opcode_found op.Rename2 = refl

same_opcode : (bytes : List ℕ) (o p : Opcode) → HasOpcode bytes o → HasOpcode bytes p → o ≡ p
same_opcode bytes o p h k = same_Some o p (sym (opcode_found o) ∙ ap opcode_in (sym h ∙ k) ∙ opcode_found p)

-- what two readings of a body under its operation say is the same
same_asked : (bytes : List ℕ) (x y : Option Asked) → ((o : Opcode) × HasOpcode bytes o × (asked_by o (body_in bytes) ≡ x))
    → ((o : Opcode) × HasOpcode bytes o × (asked_by o (body_in bytes) ≡ y)) → x ≡ y
same_asked bytes x y h k = sym h.2 ∙ ap (λ o. asked_by o (body_in bytes)) (same_opcode bytes h.0 k.0 h.1 k.1) ∙ k.2

pub one_message : OneMessage
one_message bytes (Request h o) (Request i p) r s = (r.1 ∙ sym s.1, same_Some (seen o) (seen p) (same_asked bytes _ _ r.2 s.2))
one_message bytes (Request h o) (Unknown v) r s = absurd (s.2 r.2.0 r.2.1)
one_message bytes (Request h o) (Malformed v) r s = absurd (none-some (seen o) (same_asked bytes _ _ s.2 r.2))
one_message bytes (Request h o) Unframed r s = absurd (s r.0)
one_message bytes (Unknown u) (Request i p) r s = absurd (r.2 s.2.0 s.2.1)
one_message bytes (Unknown u) (Unknown v) r s = r.1 ∙ sym s.1
one_message bytes (Unknown u) (Malformed v) r s = absurd (r.2 s.2.0 s.2.1)
one_message bytes (Unknown u) Unframed r s = absurd (s r.0)
one_message bytes (Malformed u) (Request i p) r s = absurd (none-some (seen p) (same_asked bytes _ _ r.2 s.2))
one_message bytes (Malformed u) (Unknown v) r s = absurd (s.2 r.2.0 r.2.1)
one_message bytes (Malformed u) (Malformed v) r s = r.1 ∙ sym s.1
one_message bytes (Malformed u) Unframed r s = absurd (s r.0)
one_message bytes Unframed (Request i p) r s = absurd (r s.0)
one_message bytes Unframed (Unknown v) r s = absurd (r s.0)
one_message bytes Unframed (Malformed v) r s = absurd (r s.0)
one_message bytes Unframed Unframed r s = tt
