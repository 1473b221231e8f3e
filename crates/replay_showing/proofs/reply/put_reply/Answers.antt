-- The reply is put, what is shown behind it, and the line's end.
-- Assumes nothing.
use Rattle.text_pages.specs.Page.{ended}
use Rattle.text_pages.proofs.Pages.{next, follow, ends}
use Rattle.replay_showing.specs.Reply.{replied, behind}
use Rattle.replay_showing.proofs.reply.put_reply.Goals as goal

pub returns : goal.returns
returns c =
    let a = c.args in
    let r = c.put_replied-at in
    let s = c.put_behind-at in
    (follow a.out.now a.at (replied a.number a.answer.reply) r.ensures
    (follow r.new.out r.result (behind a.shows a.answer a.message.now a.sent.now) s.ensures
    (next s.new.out s.result ended (c.put.ensures.value, c.put.ensures.out_after) ends))
    ).as_put
