-- `replay_shift::run::run_lines` meets its contract: line by line, what is left to run leads where the whole run leads.
-- Assumes nothing.
use Rattle.std.proofs.Common.{◌≡◌, ◌≤◌, Bool, true, false, cond, length, sym, refl, ap, ◌∙◌, arith}
use lib.Seq.{slice}
use Rattle.plan_words.specs.Words.{plan_at}
use Rattle.areas.specs.declared.Areas.{Areas}
use Rattle.areas.specs.Lent.{Stays}
use Rattle.node.specs.Memory.{memory_of}
use Rattle.replay_shift.proofs.Lines.{less_left}
use Rattle.replay_shift.specs.Shift.{desk_at, lines_from, ran_lines, sized}
use Rattle.replay_shift.proofs.Going.{begins, goes_further, stops, ended, sizes_of, line_of, room_of, next_at}
use Rattle.replay_shift.proofs.run.run_lines.Goals as goal

-- the same areas over two calls
stays_on : (a b c : Areas) → Stays a b → Stays b c → Stays a c
stays_on a b c first then = (
  then.0 ∙ first.0,
  then.1 ∙ first.1,
  then.2 ∙ first.2,
  then.3 ∙ first.3,
  then.4 ∙ first.4,
  then.5 ∙ first.5,
  then.6 ∙ first.6,
)

pub returns-then-not-fit : goal.returns-then-not-fit
returns-then-not-fit c =
    let a = c.args in
    let m = memory_of a.areas.now a.reports.now a.sent.now in
    let d = desk_at m a.message.now a.out.now a.from in
    let whole = ran_lines (plan_at a.plan.now) a.view (lines_from a.text.now a.from.at) d in
    let off : sized d a.out.now ≡ false = sym c.fit.ensures ∙ c.if-not-fit.true in
    let is : d ≡ cond (sized d a.out.now) whole d = sym (ap (λ (t : Bool). cond t whole d) off) in
    let all =
    ended (plan_at a.plan.now) a.view a.text.now a.from m a.message.now a.out.now m a.message.now a.out.now a.from
    (cond (sized d a.out.now) whole d) is (omega arith) refl refl
    in
    record { stays = search; value = all.0; out_after = all.1.0; sent_value = all.1.1.0; message_after = all.1.1.1 }

pub loop-view-init : goal.loop-view-init
loop-view-init c =
    let a = c.args in
    (search, begins (plan_at a.plan.now) a.view a.text.now a.from (memory_of a.areas.now a.reports.now a.sent.now) a.message.now a.out.now)

pub run_line-place-requires : goal.run_line-place-requires
run_line-place-requires c =
    let l = c.loop-view in
    let part = c.line-part.result in
    let a = c.args in
    let sizes =
    sizes_of (length a.message.now) (length a.sent.now) (length a.reports.now) (length a.out.now)
    (sym c.fit.ensures ∙ c.if-not-fit.false)
    in
    let on = sym c.goes_on.ensures ∙ c.if-not-goes_on.false in
    let room : l.place.pending ≤ 65536 = room_of part.closed l.place.readable l.place.pending on in
    record {
      pending_bound = room;
      message_len = omega (arith, sizes.message_is);
      sent_len = omega (arith, sizes.sent_is);
      reports_len = omega (arith, sizes.reports_is);
      out_len = omega (arith, sizes.out_is);
    }

pub loop-view-smaller : goal.loop-view-smaller
loop-view-smaller c =
    let a = c.args in
    let l = c.loop-view in
    let found = c.line-part in
    let ran = c.run_line-place in
    let on = sym c.goes_on.ensures ∙ c.if-not-goes_on.false in
    let less = less_left a.text.now l.place.at found.result found.ensures (line_of found.result.closed l.place.readable l.place.pending on) in
    let next =
    next_at (plan_at a.plan.now) a.view (slice l.place.at found.result.end a.text.now) found.result.next
    (desk_at (memory_of l.areas l.reports l.sent) l.message l.out l.place)
    (memory_of ran.new.areas ran.new.reports ran.new.sent)
    ran.new.message ran.new.out ran.result ran.ensures.result_after
    in
    omega (arith, less, next)

pub loop-view-preserved : goal.loop-view-preserved
loop-view-preserved c =
    let a = c.args in
    let l = c.loop-view in
    let found = c.line-part in
    let ran = c.run_line-place in
    let sizes =
    sizes_of (length a.message.now) (length a.sent.now) (length a.reports.now) (length a.out.now)
    (sym c.fit.ensures ∙ c.if-not-fit.false)
    in
    let on = sym c.goes_on.ensures ∙ c.if-not-goes_on.false in
    let long : length l.out ≡ length a.out.now = omega arith in
    let long' : length ran.new.out ≡ length a.out.now = omega arith in (
      stays_on a.areas.now l.areas ran.new.areas l.invariant.0 ran.ensures.stays,
      goes_further (plan_at a.plan.now) a.view a.text.now a.from (memory_of a.areas.now a.reports.now a.sent.now) a.message.now a.out.now sizes.out_is
          (memory_of l.areas l.reports l.sent) l.message l.out l.place long l.invariant.1 found.result found.ensures on
          (memory_of ran.new.areas ran.new.reports ran.new.sent)
          ran.new.message ran.new.out ran.result long' ran.ensures.result_after ran.ensures.pending_bound_2 ran.ensures.out_unchanged,
    )

pub returns : goal.returns
returns c =
    let a = c.args in
    let l = c.loop-view in
    let found = c.line-part in
    let m = memory_of a.areas.now a.reports.now a.sent.now in
    let n = memory_of l.areas l.reports l.sent in
    let d = desk_at m a.message.now a.out.now a.from in
    let whole = ran_lines (plan_at a.plan.now) a.view (lines_from a.text.now a.from.at) d in
    let fits : sized d a.out.now ≡ true = sym c.fit.ensures ∙ c.if-not-fit.false in
    let sizes = sizes_of (length a.message.now) (length a.sent.now) (length a.reports.now) (length a.out.now) fits in
    let off = sym c.goes_on.ensures ∙ c.if-not-goes_on.true in
    let long : length l.out ≡ length a.out.now = omega arith in
    let is =
    stops (plan_at a.plan.now) a.view a.text.now a.from m a.message.now a.out.now sizes.out_is
    n l.message l.out l.place long l.invariant.1 found.result found.ensures off
    in
    let all =
    ended (plan_at a.plan.now) a.view a.text.now a.from m a.message.now a.out.now n l.message l.out l.place
    (cond (sized d a.out.now) whole d) (is ∙ sym (ap (λ (t : Bool). cond t whole d) fits)) l.invariant.1.pending_is l.invariant.1.rest_is long
    in
    record { stays = l.invariant.0; value = all.0; out_after = all.1.0; sent_value = all.1.1.0; message_after = all.1.1.1 }
