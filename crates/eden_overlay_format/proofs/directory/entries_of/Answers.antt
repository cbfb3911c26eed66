use Rattle.std.proofs.Common.{refl, sym, subst}
use Rattle.std.proofs.lemmas.Result.{err_from_is_err_and}
use Rattle.eden_overlay_format.proofs.Rising.{IsRising}
use Rattle.eden_overlay_format.proofs.Found.{fails, unrisen, entries_read, storable}
use Rattle.eden_overlay_format.proofs.directory.entries_of.Goals as goal

pub returns-in_err-entries-clause-entries : goal.returns-in_err-entries-clause-entries
returns-in_err-entries-clause-entries c =
    let p = err_from_is_err_and c.from_residual.result c.from_residual.ensures.1 in
    rw (p.1, p.2) (fails c.args.body.now c.in_err-entries.field-0.0 c.in_err-entries.ensures.rows)

pub returns-then-not-is_rising-clause-entries : goal.returns-then-not-is_rising-clause-entries
returns-then-not-is_rising-clause-entries c = (
  refl,
  unrisen c.args.body.now c.in_ok-entries.entries.items c.in_ok-entries.ensures.rows
      (λ rising. let found = c.is_rising.ensures.1 (subst IsRising (sym c.deref.ensures.value) rising) in absurd cc),
)

pub returns-clause-entries : goal.returns-clause-entries
returns-clause-entries c =
    let rising = subst IsRising c.deref.ensures.value (c.is_rising.ensures.0 c.if-not-is_rising.false) in
    entries_read c.args.body.now c.in_ok-entries.entries.items c.in_ok-entries.ensures.rows rising

pub returns-clause-storable : goal.returns-clause-storable
returns-clause-storable c =
    let rising = subst IsRising c.deref.ensures.value (c.is_rising.ensures.0 c.if-not-is_rising.false) in
    storable c.args.body.now c.in_ok-entries.entries.items c.in_ok-entries.ensures.rows rising
