-- Digits are ASCII.
use Rattle.std.proofs.Common.{arith}
use Rattle.std.specs.Prelude.{codes}
use Rattle.std.specs.Str.{IsAscii}
use Rattle.std.proofs.lemmas.Str.{IsUtf8-from_ascii}
use Rattle.std.proofs.lemmas.Str.Ascii.{IsAscii-nil, IsAscii-cons}
use Rattle.hex.specs.Hex.{lower_digits}
use Rattle.hex.proofs.HexLemmas.{IsAscii-encode_with}
use Rattle.bench_text.proofs.digits_of.Goals as goal

digits : IsAscii lower_digits
digits =
    (IsAscii-cons 48 (codes "123456789abcdef") (omega arith)
    (IsAscii-cons 49 (codes "23456789abcdef") (omega arith)
    (IsAscii-cons 50 (codes "3456789abcdef") (omega arith)
    (IsAscii-cons 51 (codes "456789abcdef") (omega arith)
    (IsAscii-cons 52 (codes "56789abcdef") (omega arith)
    (IsAscii-cons 53 (codes "6789abcdef") (omega arith)
    (IsAscii-cons 54 (codes "789abcdef") (omega arith)
    (IsAscii-cons 55 (codes "89abcdef") (omega arith)
    (IsAscii-cons 56 (codes "9abcdef") (omega arith)
    (IsAscii-cons 57 (codes "abcdef") (omega arith)
    (IsAscii-cons 97 (codes "bcdef") (omega arith)
    (IsAscii-cons 98 (codes "cdef") (omega arith)
    (IsAscii-cons 99 (codes "def") (omega arith)
    (IsAscii-cons 100 (codes "ef") (omega arith)
    (IsAscii-cons 101 (codes "f") (omega arith)
    (IsAscii-cons 102 (codes "") (omega arith) IsAscii-nil))))))))))))))))

pub unreachable-requires-in_default-from_utf8 : goal.unreachable-requires-in_default-from_utf8
unreachable-requires-in_default-from_utf8 c =
    let text = IsUtf8-from_ascii _ (IsAscii-encode_with lower_digits c.args.piece.now digits) in
    c.in_default-from_utf8.ensures.cases.0 (rw (← c.in-Ok.ensures.written) at text)
