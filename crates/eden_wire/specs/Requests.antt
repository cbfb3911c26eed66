-- How requests are spelled, and which are refused for their names: the first reason from the left.
use Rattle.std.specs.Prelude.{◌≡◌, ℕ, List, [], ◌∷◌, ◌++◌, Option, Some, None, codes}
use Rattle.std.specs.List.{AllByRecursion, flat_map, slice_get}
use Rattle.eden_model.specs.Bytes.{space_byte}
use Rattle.eden_model.specs.declared.errno.Errno.{Errno}
use Rattle.eden_model.specs.declared.request.Request.{Request}
use Rattle.eden_model.specs.declared.request.Request.TheVariants as request
use Rattle.eden_wire.specs.Fields.{Field, field_text, IsField, refusals}
use Rattle.eden_wire.specs.Fields.Field.{of_path, of_number, of_bit, of_data, of_after}

-- the word that a request's line begins with, and the fields behind it; no line spells a patch
abbrev pub spelling : Request → Option (List ℕ × List Field)
spelling (request.Kind path) = Some (codes "kind", of_path path ∷ [])
spelling (request.Stat path) = Some (codes "stat", of_path path ∷ [])
spelling (request.Read path offset len) = Some (codes "read", of_path path ∷ of_number offset ∷ of_number len ∷ [])
spelling (request.ReadLink path) = Some (codes "readlink", of_path path ∷ [])
spelling (request.List path after limit) = Some (codes "list", of_path path ∷ of_after after ∷ of_number limit ∷ [])
spelling (request.Write path offset bytes) = Some (codes "write", of_path path ∷ of_number offset ∷ of_data bytes ∷ [])
spelling (request.Patch path offset bytes) = None
spelling (request.Truncate path size) = Some (codes "truncate", of_path path ∷ of_number size ∷ [])
spelling (request.Create path) = Some (codes "create", of_path path ∷ [])
spelling (request.SetExec path exec) = Some (codes "setexec", of_path path ∷ of_bit exec ∷ [])
spelling (request.Mkdir path) = Some (codes "mkdir", of_path path ∷ [])
spelling (request.Symlink path target) = Some (codes "symlink", of_path path ∷ of_data target ∷ [])
spelling (request.Unlink path) = Some (codes "unlink", of_path path ∷ [])
spelling (request.Rmdir path) = Some (codes "rmdir", of_path path ∷ [])
spelling (request.Rename from to) = Some (codes "rename", of_path from ∷ of_path to ∷ [])

-- the line is the request's word, and each field behind a space; of its refusals this is the first, if there are any
pub record Spells (q : Request) (line : List ℕ) (refusal : Option Errno) : Type 0 where
  pub word : List ℕ
  pub fields : List Field
  pub parts : spelling q ≡ Some (word, fields)
  pub text : line ≡ word ++ flat_map (λ f. space_byte ∷ field_text f) fields
  pub good : AllByRecursion IsField fields
  pub refused : refusal ≡ slice_get (flat_map refusals fields) 0
