-- Known answers: what the texts of ranges and of long seeds ask for.
use Rattle.std.specs.Prelude.{[], ◌++◌, codes, replicate, pos, negsuc, refl}
use Rattle.std.proofs.Common.{arith}
use Rattle.std.specs.List.{range_with_len}
use Rattle.hex.specs.Hex.{decode_pairs}
use Rattle.std.specs.declared.ops.Bound.TheVariants.{Included, Excluded, Unbounded}
use Rattle.nanorand_replay.specs.declared.replay.Span.TheVariants as spans
use Rattle.nanorand_replay.specs.declared.replay.Call.TheVariants.{Range, Shuffle}
use Rattle.draw_core.specs.declared.command.SeededGenerator.TheVariants.{Pcg64, ChaCha20}
use Rattle.draw_core.specs.Requests.{IsRequest}
use Rattle.draw_core.specs.Arguments.{IsSeed}

pub u8_10_to_12 : IsRequest (codes "u8:10..=12") (Range (spans.U8 (Included 10) (Included 12)))
u8_10_to_12 = (
  codes "10..=12",
  refl,
  record {
    before = codes "10";
    after = codes "=12";
    whole = refl;
    is_low = record { digits = (omega arith, (omega arith, (omega arith, tt))); value = refl; fits = omega arith };
    is_high = (codes "12", refl, record { digits = (omega arith, (omega arith, (omega arith, tt))); value = refl; fits = omega arith });
  },
)

pub u8_all : IsRequest (codes "u8:..") (Range (spans.U8 Unbounded Unbounded))
u8_all = (codes "..", refl, record { before = []; after = []; whole = refl; is_low = refl; is_high = refl })

pub u8_from_200 : IsRequest (codes "u8:200..") (Range (spans.U8 (Included 200) Unbounded))
u8_from_200 = (
  codes "200..",
  refl,
  record {
    before = codes "200";
    after = [];
    whole = refl;
    is_low = record { digits = (omega arith, (omega arith, (omega arith, (omega arith, tt)))); value = refl; fits = omega arith };
    is_high = refl;
  },
)

pub u16_below_1000 : IsRequest (codes "u16:0..1000") (Range (spans.U16 (Included 0) (Excluded 1000)))
u16_below_1000 = (
  codes "0..1000",
  refl,
  record {
    before = codes "0";
    after = codes "1000";
    whole = refl;
    is_low = record { digits = (omega arith, (omega arith, tt)); value = refl; fits = omega arith };
    is_high = record { digits = (omega arith, (omega arith, (omega arith, (omega arith, (omega arith, tt))))); value = refl; fits = omega arith };
  },
)

pub i16_about_zero : IsRequest (codes "i16:-300..300") (Range (spans.I16 (Included (negsuc 299)) (Excluded (pos 300))))
i16_about_zero = (
  codes "-300..300",
  refl,
  record {
    before = codes "-300";
    after = codes "300";
    whole = refl;
    is_low = record { digits = (omega arith, (omega arith, (omega arith, (omega arith, tt)))); value = refl; fits = omega arith };
    is_high = record { digits = (omega arith, (omega arith, (omega arith, (omega arith, tt)))); value = refl; fits = omega arith };
  },
)

pub i8_empty : IsRequest (codes "i8:-128..-128") (Range (spans.I8 (Included (negsuc 127)) (Excluded (negsuc 127))))
i8_empty = (
  codes "-128..-128",
  refl,
  record {
    before = codes "-128";
    after = codes "-128";
    whole = refl;
    is_low = record { digits = (omega arith, (omega arith, (omega arith, (omega arith, tt)))); value = refl; fits = omega arith };
    is_high = record { digits = (omega arith, (omega arith, (omega arith, (omega arith, tt)))); value = refl; fits = omega arith };
  },
)

pub u8_empty : IsRequest (codes "u8:5..5") (Range (spans.U8 (Included 5) (Excluded 5)))
u8_empty = (
  codes "5..5",
  refl,
  record {
    before = codes "5";
    after = codes "5";
    whole = refl;
    is_low = record { digits = (omega arith, (omega arith, tt)); value = refl; fits = omega arith };
    is_high = record { digits = (omega arith, (omega arith, tt)); value = refl; fits = omega arith };
  },
)

shuffle_asked : IsRequest (codes "shuffle") Shuffle
shuffle_asked = refl

-- Seeds of 32 and of 80 digits.
pub seed_of_pcg64 : IsSeed (codes "00000000000000000000000000000000") (Pcg64 (replicate 16 0))
unfolding decode_pairs
seed_of_pcg64 = refl

pub seed_of_zeros : IsSeed (replicate 80 48) (ChaCha20 (replicate 40 0))
unfolding decode_pairs
seed_of_zeros = refl

pub seed_in_order : IsSeed (codes "000102030405060708090a0b0c0d0e0f101112131415161718191a1b1c1d1e1f0001020304050607")
    (ChaCha20 (range_with_len 0 32 ++ range_with_len 0 8))
unfolding decode_pairs
seed_in_order = refl
