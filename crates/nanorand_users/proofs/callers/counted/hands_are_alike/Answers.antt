use Rattle.std.proofs.Common.{sym, ◌∙◌, arith}
use Rattle.nanorand_users.proofs.callers.counted.hands_are_alike.Goals as goal

pub returns : goal.returns
returns c = λ hand other is_deal other_is.
    let deals = c.shuffles_are_fair.ensures.deals 5 52 in
    deals hand (omega arith) (omega arith) is_deal ∙ sym (deals other (omega arith) (omega arith) other_is)
