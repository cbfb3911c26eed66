use Rattle.life_tests.proofs.SampleLemmas.{version_1_is_honest, version_2_is_honest, new_file_is_honest, one_file_is_honest, two_files_is_honest}
use Rattle.life_tests.proofs.honest.objects.Goals as goal

pub put-requires : goal.put-requires
put-requires c = version_1_is_honest c.one_frame.ensures

pub put-requires-2 : goal.put-requires-2
put-requires-2 c = version_2_is_honest c.one_frame.ensures

pub put-requires-3 : goal.put-requires-3
put-requires-3 c = new_file_is_honest c.one_frame.ensures

pub put-requires-4 : goal.put-requires-4
put-requires-4 c = one_file_is_honest c.one_frame.ensures c.one_list.ensures

pub put-requires-5 : goal.put-requires-5
put-requires-5 c = two_files_is_honest c.one_frame.ensures c.one_list.ensures
