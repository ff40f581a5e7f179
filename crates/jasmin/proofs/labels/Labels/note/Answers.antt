use Rattle.std.proofs.Common.{◌∙◌, ap, ◌++◌, ◌∷◌, []}
use Rattle.indexmap.proofs.CallerLemmas.{insert_entry-new}
use Rattle.std.specs.Str.{bytes_eq}
use Rattle.model.specs.Texts.Tables.{named}
use Rattle.jasmin.proofs.LabelLemmas.{named_of, rows_of, rows_push}
use Rattle.jasmin.proofs.labels.Labels.note.Goals as goal

pub returns : goal.returns
returns g c =
    let new = named_of (λ k. k.now) c.args.name.now c.self.inside.table.entries
    ∙ ap (λ rows. named rows c.args.name.now) c.self.view_is ∙ c.requires in
    let entries = c.in_ok-insert.ensures.entries ∙ insert_entry-new (λ x y. bytes_eq x.now y.now) c.self.inside.table
    c.args.name c.args.known new in
    ap (rows_of (λ k. k.now)) entries ∙ rows_push (λ k. k.now) c.self.inside.table.entries c.args.name c.args.known
    ∙ ap (λ rows. rows ++ (c.args.name.now, c.args.known) ∷ []) c.self.view_is
