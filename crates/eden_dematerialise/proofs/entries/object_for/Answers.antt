use Rattle.eden_overlay_format.proofs.CallerLemmas.{content_short}
use Rattle.eden_dematerialise.proofs.entries.object_for.Goals as goal

pub has_content-requires : goal.has_content-requires
has_content-requires g c = content_short c.deref.result.now c.in-Ok.content.now c.in-Ok.ensures.found
