-- Known answers: the words that splitmix64.c draws from 1234567, and seeds made from numbers.
use Rattle.std.proofs.Common.{◌≡◌, [], ◌∷◌, refl}
use Rattle.std.specs.Fn.{iterate}
use Rattle.nanorand_core.specs.generators.Blocks.{taken}
use Rattle.nanorand.specs.generators.SplitMix.{mixed, seed_from, split_mix_next}

word_1 : mixed (iterate split_mix_next 1 1234567) ≡ 6457827717110365317
word_1 = refl

word_2 : mixed (iterate split_mix_next 2 1234567) ≡ 3203168211198807973
word_2 = refl

word_3 : mixed (iterate split_mix_next 3 1234567) ≡ 9817491932198370423
word_3 = refl

word_4 : mixed (iterate split_mix_next 4 1234567) ≡ 4593380528125082431
word_4 = refl

word_5 : mixed (iterate split_mix_next 5 1234567) ≡ 16408922859458223821
word_5 = refl

-- The seed that Pcg64 makes from 0. Its words are 0xe220a8397b1dcdaf and 0x6e789e6aa1b965f4.
seed_of_0 : seed_from 16 0
    ≡ 0xaf ∷ 0xcd ∷ 0x1d ∷ 0x7b ∷ 0x39 ∷ 0xa8 ∷ 0x20 ∷ 0xe2 ∷ 0xf4 ∷ 0x65 ∷ 0xb9 ∷ 0xa1 ∷ 0x6a ∷ 0x9e ∷ 0x78 ∷ 0x6e ∷ []
unfolding taken
seed_of_0 = refl
