-- Known answers: the texts of an announcement and of a record, with their sums.
use Rattle.std.specs.Prelude.{◌≡◌, ℕ, List, [], ◌∷◌, ◌++◌, codes, map, replicate, Some, None, refl}
use Rattle.std.specs.Char.{encode_utf8}
use Rattle.std.specs.Fmt.{digits}
use Rattle.std.specs.Str.{chars, is_utf8}
use Rattle.hex.specs.Hex.{encode_with}
use Rattle.sha2.specs.Sha256.{compress, digest_bytes, first_words, hash_after, rounds, schedule, sha256}
use Rattle.lots_record.specs.Announcement.{text_of}
use Rattle.lots_record.specs.Record.{Source, drawn_lines, more_line, result_lines, source_lines}

-- The examples of docs/PAGE.md: an announcement of three winners and a reserve of twelve, and the
-- record of a draw of three, as `lots` writes it. Which three the seed draws is not computed here.
abbrev twelve : List ℕ
twelve = codes "Ada\nBarbara\nChidi\nDmitri\nElif\nFarid\nGrace\nHedy\nInes\nJun\nKatherine\nLise\n"

example_announcement : text_of (record {
  occasion = codes "Summer raffle of the school";
  winners = 3;
  reserves = 1;
  source = codes "20 throws of a die, in the hall";
  form = codes "the numbers thrown, in order, with one space between them";
  example = codes "1 2 3 4 5 6 1 2 3 4 5 6 1 2 3 4 5 6 1 2";
  time = codes "Friday 4 December 2026, 12:00, Madrid";
}) twelve 12
    ≡ codes "nanorand announcement 1\n"
    ++ codes "occasion: \"Summer raffle of the school\"\n"
    ++ codes "list SHA-256: 32230fec7f4d73fc1dc4888e4bd9becc094a248cb2098b991ab26c2ef227e860\n"
    ++ codes "entrants: 12\n"
    ++ codes "winners: 3\n"
    ++ codes "reserves: 1\n"
    ++ codes "seed source: \"20 throws of a die, in the hall\"\n"
    ++ codes "seed form: \"the numbers thrown, in order, with one space between them\"\n"
    ++ codes "seed example: \"1 2 3 4 5 6 1 2 3 4 5 6 1 2 3 4 5 6 1 2\"\n"
    ++ codes "time: \"Friday 4 December 2026, 12:00, Madrid\"\n"
    ++ codes "end of the announcement\n"
unfolding is_utf8 chars encode_utf8 digits encode_with sha256 digest_bytes hash_after compress rounds schedule first_words
example_announcement = refl

abbrev source : Source
source = record { seed = codes "4 1 6 3 3 2 5 6 1 4 2 6 5 3 1 1 6 2 4 5"; count = 3; announcement = None; program = None }

example_record : source_lines source twelve 12 ++ result_lines (codes "Katherine" ∷ codes "Jun" ∷ codes "Chidi" ∷ [])
    ≡ codes "nanorand public draw 2\n"
    ++ codes "announcement SHA-256: none\n"
    ++ codes "seed: \"4 1 6 3 3 2 5 6 1 4 2 6 5 3 1 1 6 2 4 5\"\n"
    ++ codes "list SHA-256: 32230fec7f4d73fc1dc4888e4bd9becc094a248cb2098b991ab26c2ef227e860\n"
    ++ codes "entrants: 12\n"
    ++ codes "drawn: 3\n"
    ++ codes "result SHA-256: d44df65b613f78f8bb637295ecfbaf57109d9ec26487514c036dc826f6757939\n"
    ++ codes "1: \"Katherine\"\n"
    ++ codes "2: \"Jun\"\n"
    ++ codes "3: \"Chidi\"\n"
    ++ codes "end of the record\n"
unfolding is_utf8 chars encode_utf8 digits encode_with sha256 digest_bytes hash_after compress rounds schedule first_words
example_record = refl

-- A record that names an announcement, with the line of a module.
with_sums : source_lines (record { seed = codes "x"; count = 0; announcement = Some (replicate 32 0xa5); program = Some (replicate 32 15) }) (codes "a\n") 1
    ≡ codes "nanorand public draw 2\n"
    ++ codes "announcement SHA-256: a5a5a5a5a5a5a5a5a5a5a5a5a5a5a5a5a5a5a5a5a5a5a5a5a5a5a5a5a5a5a5a5\n"
    ++ codes "seed: \"x\"\n"
    ++ codes "list SHA-256: 87428fc522803d31065e7bce3cf03fe475096631e5e07bbd7a0fde60c4cf25c7\n"
    ++ codes "entrants: 1\n"
    ++ codes "drawn: 0\n"
    ++ codes "module SHA-256: 0f0f0f0f0f0f0f0f0f0f0f0f0f0f0f0f0f0f0f0f0f0f0f0f0f0f0f0f0f0f0f0f\n"
unfolding is_utf8 chars encode_utf8 digits encode_with sha256 digest_bytes hash_after compress rounds schedule first_words
with_sums = refl

-- An entrant with a tab, and no entrant.
with_a_tab : drawn_lines (codes "Chi\tdi" ∷ codes "Ada" ∷ []) ≡ codes "1: \"Chi\\x09di\"\n2: \"Ada\"\nend of the record\n"
unfolding is_utf8 chars encode_utf8 digits
with_a_tab = refl

of_none : drawn_lines [] ≡ codes "end of the record\n"
of_none = refl

-- Only the first 1,000 are listed.
no_more : map more_line (0 ∷ 999 ∷ 1000 ∷ []) ≡ [] ∷ [] ∷ [] ∷ []
no_more = refl

more : map more_line (1001 ∷ 1234 ∷ []) ≡ codes "and 1 more\n" ∷ codes "and 234 more\n" ∷ []
unfolding digits
more = refl
