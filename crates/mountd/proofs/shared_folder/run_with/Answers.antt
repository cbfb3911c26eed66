use Rattle.mountd.proofs.shared_folder.run_with.Goals as goal

pub returns : goal.returns
returns g c = record {
  left = c.live_shared_folder-ending.result;
  lived = c.live_shared_folder-ending.ensures;
  told = c.folder_ending.ensures;
}
