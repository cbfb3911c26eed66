use Rattle.std.proofs.Common.{refl}
use Rattle.eden_source.proofs.Held.{FetchedFromMemory-found, IsHonest-answer}
use Rattle.eden_source.proofs.memory.MemorySourceSource.fetch.Goals as goal

pub returns-clause-asked : goal.returns-clause-asked
returns-clause-asked g c = FetchedFromMemory-found _ _ c.args.id _ _ c.self.view_is c.get.ensures.value c.copied.ensures

pub returns-clause-honest : goal.returns-clause-honest
returns-clause-honest g c = λ honest.
    let asked = FetchedFromMemory-found _ c.self.inside.objects.entries c.args.id _ _ refl c.get.ensures.value c.copied.ensures in
    IsHonest-answer _ c.args.id _ c.copied.result (c.self.invariant honest c.args.id) asked.answers
