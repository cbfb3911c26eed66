use Rattle.std.proofs.Common.{◌≡◌, ◌∙◌, ap, true, [], ◌∷◌, codes}
use Rattle.clap.specs.Simple.{App, Shape, app_of, app_of_fields, new_app, on_top, shape_of, with_subcommand}
use Rattle.mountd_options.specs.CommandLine.{changes, fuse, import, objects, repair, serve, snapshot, stdio, tidy}
use Rattle.mountd_options.specs.Grammar.{program}
use Rattle.mountd_options.proofs.grammar.command_line.Goals as goal

-- a subcommand must be there
abbrev wants_one : Shape → Shape
wants_one s = record s { subcommand_required = true }

pub returns : goal.returns
returns c =
    let name = codes "mountd" in
    let about : app_of c.about.result ≡ new_app name = ap app_of_fields c.about.ensures ∙ c.new.ensures.app in
    let none : app_of c.subcommand_required-line.result ≡ on_top wants_one (new_app name) =
    ap app_of_fields c.subcommand_required-line.ensures ∙ ap (on_top wants_one) about in
    let one : app_of c.in_ok-line.line ≡ program name (stdio ∷ []) =
    c.in_ok-line.ensures.shape c.in_ok-stdio.ensures.local
    ∙ (ap (λ (a : App). with_subcommand a (shape_of c.in_ok-stdio.stdio)) none
    ∙ ap (λ (s : Shape). with_subcommand (on_top wants_one (new_app name)) s) c.in_ok-stdio.ensures.shape) in
    let two : app_of c.in_ok-line-2.line ≡ program name (stdio ∷ serve ∷ []) =
    c.in_ok-line-2.ensures.shape c.in_ok-serve.ensures.local
    ∙ (ap (λ (a : App). with_subcommand a (shape_of c.in_ok-serve.serve)) one
    ∙ ap (λ (s : Shape). with_subcommand (program name (stdio ∷ [])) s) c.in_ok-serve.ensures.shape) in
    let three : app_of c.in_ok-line-3.line ≡ program name (stdio ∷ serve ∷ objects ∷ []) =
    c.in_ok-line-3.ensures.shape c.in_ok-objects.ensures.local
    ∙ (ap (λ (a : App). with_subcommand a (shape_of c.in_ok-objects.objects)) two
    ∙ ap (λ (s : Shape). with_subcommand (program name (stdio ∷ serve ∷ [])) s) c.in_ok-objects.ensures.shape) in
    let four : app_of c.in_ok-line-4.line ≡ program name (stdio ∷ serve ∷ objects ∷ import ∷ []) =
    c.in_ok-line-4.ensures.shape c.in_ok-import.ensures.local
    ∙ (ap (λ (a : App). with_subcommand a (shape_of c.in_ok-import.import)) three
    ∙ ap (λ (s : Shape). with_subcommand (program name (stdio ∷ serve ∷ objects ∷ [])) s) c.in_ok-import.ensures.shape) in
    let five : app_of c.in_ok-line-5.line ≡ program name (stdio ∷ serve ∷ objects ∷ import ∷ tidy ∷ []) =
    c.in_ok-line-5.ensures.shape c.in_ok-tidy.ensures.local
    ∙ (ap (λ (a : App). with_subcommand a (shape_of c.in_ok-tidy.tidy)) four
    ∙ ap (λ (s : Shape). with_subcommand (program name (stdio ∷ serve ∷ objects ∷ import ∷ [])) s) c.in_ok-tidy.ensures.shape) in
    let six : app_of c.in_ok-line-6.line ≡ program name (stdio ∷ serve ∷ objects ∷ import ∷ tidy ∷ repair ∷ []) =
    c.in_ok-line-6.ensures.shape c.in_ok-repair.ensures.local
    ∙ (ap (λ (a : App). with_subcommand a (shape_of c.in_ok-repair.repair)) five
    ∙ ap (λ (s : Shape). with_subcommand (program name (stdio ∷ serve ∷ objects ∷ import ∷ tidy ∷ [])) s) c.in_ok-repair.ensures.shape) in
    let seven : app_of c.in_ok-line-7.line ≡ program name (stdio ∷ serve ∷ objects ∷ import ∷ tidy ∷ repair ∷ snapshot ∷ []) =
    c.in_ok-line-7.ensures.shape c.in_ok-snapshot.ensures.local
    ∙ (ap (λ (a : App). with_subcommand a (shape_of c.in_ok-snapshot.snapshot)) six
    ∙ ap (λ (s : Shape). with_subcommand (program name (stdio ∷ serve ∷ objects ∷ import ∷ tidy ∷ repair ∷ [])) s) c.in_ok-snapshot.ensures.shape) in
    let eight : app_of c.in_ok-line-8.line ≡ program name (stdio ∷ serve ∷ objects ∷ import ∷ tidy ∷ repair ∷ snapshot ∷ fuse ∷ []) =
    c.in_ok-line-8.ensures.shape c.in_ok-fuse.ensures.local
    ∙ (ap (λ (a : App). with_subcommand a (shape_of c.in_ok-fuse.fuse)) seven
    ∙ ap (λ (s : Shape). with_subcommand (program name (stdio ∷ serve ∷ objects ∷ import ∷ tidy ∷ repair ∷ snapshot ∷ [])) s) c.in_ok-fuse.ensures.shape) in
    let nine : app_of c.in_ok-line-9.line ≡ program name (stdio ∷ serve ∷ objects ∷ import ∷ tidy ∷ repair ∷ snapshot ∷ fuse ∷ changes ∷ []) =
    c.in_ok-line-9.ensures.shape c.in_ok-changes.ensures.local
    ∙ (ap (λ (a : App). with_subcommand a (shape_of c.in_ok-changes.changes)) eight
    ∙ ap (λ (s : Shape). with_subcommand (program name (stdio ∷ serve ∷ objects ∷ import ∷ tidy ∷ repair ∷ snapshot ∷ fuse ∷ [])) s) c.in_ok-changes.ensures.shape) in
    c.in_ok-line-10.ensures.shape c.in_ok-dematerialise.ensures.local
    ∙ (ap (λ (a : App). with_subcommand a (shape_of c.in_ok-dematerialise.dematerialise)) nine
    ∙ ap (λ (s : Shape). with_subcommand (program name (stdio ∷ serve ∷ objects ∷ import ∷ tidy ∷ repair ∷ snapshot ∷ fuse ∷ changes ∷ [])) s) c.in_ok-dematerialise.ensures.shape)
