-- `record_entry::read_entry` meets its contract: what a line says goes by its first four fields.
-- Assumes nothing.
use mathlib.Core.Path.{◌≡◌, sym, ap, ◌∙◌}
use mathlib.Core.List.{[]}
use lib.Seq.{slice}
use Rattle.text.specs.Part.{split, tab}
use Rattle.std.specs.Prelude.{None}
use Rattle.record_kinds.specs.Kind.{fields_of}
use Rattle.record_entry.specs.Entry.{read_entry, area_after}
use Rattle.text_fields.proofs.Listed.{fields_listed}
use Rattle.record_entry.proofs.Readings.{unnamed, unfit, fit}
use Rattle.record_entry.proofs.read_entry.Goals as goal

wordless :
    (c : goal.After-from_residual) →
    (None ≡ read_entry c.args.message.now (slice c.args.at c.args.to c.args.text.now)) ×
    (c.args.message.now ≡ area_after c.args.message.now (slice c.args.at c.args.to c.args.text.now))
wordless c =
    let a = c.args in
    let found = c.first_four-found in
    let four = fields_listed a.text.now a.at a.to found.result found.ensures in
    unnamed a.message.now (split tab (slice a.at a.to a.text.now)) c.between.result.now (c.between.ensures ∙ sym (four.first [])) (sym c.in_err-kind.was ∙ c.read_kind.ensures)

pub returns-in_err-kind-clause-value : goal.returns-in_err-kind-clause-value
returns-in_err-kind-clause-value c =
    let none : c.from_residual.result ≡ None = search in
    none ∙ (wordless c).0

pub returns-in_err-kind-clause-message_after : goal.returns-in_err-kind-clause-message_after
returns-in_err-kind-clause-message_after c = (wordless c).1

refused :
    (c : goal.Then-found-fields_of) →
    (None ≡ read_entry c.args.message.now (slice c.args.at c.args.to c.args.text.now)) ×
    (c.args.message.now ≡ area_after c.args.message.now (slice c.args.at c.args.to c.args.text.now))
refused c =
    let a = c.args in
    let found = c.first_four-found in
    let asked = c.fields_of.ensures ∙ ap fields_of c.form_of.ensures in
    unfit a.message.now _ found.result.count _ _ _ _
    (fields_listed a.text.now a.at a.to found.result found.ensures)
    c.between.result.now
    c.between.ensures
    c.in_ok-kind.kind
    (sym c.in_ok-kind.was ∙ c.read_kind.ensures)
    (λ e. c.if-found-fields_of.true (e ∙ sym asked))

pub returns-then-found-fields_of-clause-value : goal.returns-then-found-fields_of-clause-value
returns-then-found-fields_of-clause-value c = (refused c).0

pub returns-then-found-fields_of-clause-message_after : goal.returns-then-found-fields_of-clause-message_after
returns-then-found-fields_of-clause-message_after c = (refused c).1

pub returns-clause-value : goal.returns-clause-value
returns-clause-value c =
    let a = c.args in
    let found = c.first_four-found in
    let asked = c.fields_of.ensures ∙ ap fields_of c.form_of.ensures in
    (fit a.message.now _ found.result.count _ _ _ _
    (fields_listed a.text.now a.at a.to found.result found.ensures)
    c.between.result.now
    c.between.ensures
    c.in_ok-kind.kind
    (sym c.in_ok-kind.was ∙ c.read_kind.ensures)
    (c.if-found-fields_of.false ∙ asked)
    _ _ _
    c.between-one.ensures
    c.between-two.ensures
    c.between-three.ensures
    _ _
    c.read_fields.ensures.value
    c.read_fields.ensures.message_after).0

pub returns-clause-message_after : goal.returns-clause-message_after
returns-clause-message_after c =
    let a = c.args in
    let found = c.first_four-found in
    let asked = c.fields_of.ensures ∙ ap fields_of c.form_of.ensures in
    (fit a.message.now _ found.result.count _ _ _ _
    (fields_listed a.text.now a.at a.to found.result found.ensures)
    c.between.result.now
    c.between.ensures
    c.in_ok-kind.kind
    (sym c.in_ok-kind.was ∙ c.read_kind.ensures)
    (c.if-found-fields_of.false ∙ asked)
    _ _ _
    c.between-one.ensures
    c.between-two.ensures
    c.between-three.ensures
    _ _
    c.read_fields.ensures.value
    c.read_fields.ensures.message_after).1
