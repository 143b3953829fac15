use Rattle.nanorand_users.proofs.callers.counted.waits_in_vain.Goals as goal

pub returns : goal.returns
returns c = λ seed all.
    let never = c.wyrand_words_are_not_equally_frequent.ensures.never in
    let comes = all never.0 never.1 in
    never.2 comes.0 seed comes.1
