use Rattle.std.specs.Prelude.{refl}
use Rattle.eden_model.specs.Limits.{most_data, most_file}
use Rattle.eden_model.specs.ChangeLaws.{writes, patches}
use Rattle.eden_model.proofs.Pieces.{data_is_written, old_bytes_stay, written_length, resized_bytes, resized_length}
use Rattle.eden_model.proofs.PathLaws.{others_stay, put_sets, patch_is_write, truncate_sets, truncate_empties, set_exec_sets, create_adds, mkdir_adds, symlink_adds, unlink_takes_away}
use Rattle.eden_model.proofs.PathLaws.{rmdir_takes_away, rename_moves, rename_leaves_nothing, rename_keeps, put_reads_back}
use Rattle.eden_model.proofs.laws.change_laws.Goals as goal

pub returns : goal.returns
returns c = record {
  others_stay = others_stay;
  write_sets = put_sets writes (λ F p offset bytes. refl);
  patch_sets = put_sets patches (λ F p offset bytes. refl);
  patch_is_write = patch_is_write;
  data_is_written = data_is_written;
  old_bytes_stay = old_bytes_stay;
  written_length = written_length;
  truncate_sets = truncate_sets;
  truncate_empties = truncate_empties;
  resized_bytes = resized_bytes;
  resized_length = resized_length;
  set_exec_sets = set_exec_sets;
  create_adds = create_adds;
  mkdir_adds = mkdir_adds;
  symlink_adds = symlink_adds;
  unlink_takes_away = unlink_takes_away;
  rmdir_takes_away = rmdir_takes_away;
  rename_moves = rename_moves;
  rename_leaves_nothing = rename_leaves_nothing;
  rename_keeps = rename_keeps;
  reads_back = put_reads_back writes most_data (λ F p offset bytes r h. h) (λ F p offset bytes. refl);
  patch_reads_back = put_reads_back patches most_file (λ F p offset bytes r h. h) (λ F p offset bytes. refl);
}
