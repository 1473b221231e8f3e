-- `plan_store::words_of` meets its contract. Assumes nothing.
use mathlib.Core.Path.{◌≡◌, ap, ◌∙◌}
use Rattle.plan_words.specs.Words.{plan_at}
use Rattle.plan_store.specs.Layout.{words_of}
use Rattle.plan_store.proofs.Again.{said_again}
use Rattle.plan_store.proofs.Fits.{plan_fits}
use Rattle.plan_store.proofs.words_of.Goals as goal

all : (c : goal.After-store_ways) → c.store_ways.new.words ≡ words_of c.args.plan
unfolding words_of
all c = simp (c.store_ways.ensures, c.store_codes.ensures, c.store_links.ensures, c.store_sets.ensures, c.flag_word.ensures)

pub returns-clause-value : goal.returns-clause-value
returns-clause-value c = all c

pub returns-clause-result_value : goal.returns-clause-result_value
returns-clause-result_value c =
    let plan = c.args.plan in
    ap plan_at (all c) ∙ said_again plan (plan_fits plan _ c.well_formed.0)
