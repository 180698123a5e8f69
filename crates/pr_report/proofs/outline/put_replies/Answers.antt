use Rattle.pr_report.proofs.Common.{front_first, front_then, puts_err, puts_last}
use Rattle.pr_report.specs.OutlineText.{replies_text}
use Rattle.pr_report.proofs.outline.put_replies.Goals as goal

pub returns-in_err-put_permitted : goal.returns-in_err-put_permitted
unfolding replies_text
returns-in_err-put_permitted g c = puts_err _ _ _ _ (front_first _ _ _ _ c.in_err-put_permitted.ensures) c.from_residual.ensures.0

pub returns-in_err-put_arms : goal.returns-in_err-put_arms
unfolding replies_text
returns-in_err-put_arms g c =
    let f = front_first _ _ _ _ (rw (c.deref.ensures.value, c.deref-2.ensures.value) at c.in_err-put_arms.ensures) in
    puts_err _ _ _ _ (front_then _ _ _ _ _ c.in_ok-put_permitted.ensures f) c.from_residual-in_err-put_arms.ensures.0

pub returns-in_err-put_unarmed : goal.returns-in_err-put_unarmed
unfolding replies_text
returns-in_err-put_unarmed g c =
    let f = front_first _ _ _ _ (rw c.deref-3.ensures.value at c.in_err-put_unarmed.ensures) in
    let h = front_then _ _ _ _ _ (rw (c.deref.ensures.value, c.deref-2.ensures.value) at c.in_ok-put_arms.ensures) f in
    puts_err _ _ _ _ (front_then _ _ _ _ _ c.in_ok-put_permitted.ensures h) c.from_residual-in_err-put_unarmed.ensures.0

pub returns : goal.returns
unfolding replies_text
returns g c =
    let p = rw (c.deref-4.ensures.value, c.deref-5.ensures.value) at c.put_never.ensures in
    let q = puts_last _ _ _ _ _ _ (rw c.deref-3.ensures.value at c.in_ok-put_unarmed.ensures) p in
    let r = puts_last _ _ _ _ _ _ (rw (c.deref.ensures.value, c.deref-2.ensures.value) at c.in_ok-put_arms.ensures) q in
    puts_last _ _ _ _ _ _ c.in_ok-put_permitted.ensures r
