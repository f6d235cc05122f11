-- The test of publishers answers whether they are equal.
use Rattle.std.proofs.Common.{◌≡◌, true, refl, ap, eq-eqb}
use Rattle.std.proofs.lemmas.Bool.{eqb-true, false≢true}
use Rattle.std.proofs.lemmas.Slice.Eq.{bytes_eq-Decides}
use Rattle.config_tables.specs.Texts.{is_same_publisher}
use Rattle.config_tables.specs.declared.publisher.Publisher.{Publisher}
use Rattle.config_tables.specs.declared.publisher.Publisher.TheVariants as ids

pub same-publisher : (one other : Publisher) → is_same_publisher one other ≡ true → one ≡ other
same-publisher (ids.U8 m) (ids.U8 n) e = ap ids.U8 (eqb-true m n e)
same-publisher (ids.U16 m) (ids.U16 n) e = ap ids.U16 (eqb-true m n e)
same-publisher (ids.U32 m) (ids.U32 n) e = ap ids.U32 (eqb-true m n e)
same-publisher (ids.U64 m) (ids.U64 n) e = ap ids.U64 (eqb-true m n e)
same-publisher (ids.Text m) (ids.Text n) e = ap ids.Text ((bytes_eq-Decides m n).0 e)
same-publisher one other e = absurd (false≢true e)

pub self-publisher : (one : Publisher) → is_same_publisher one one ≡ true
self-publisher (ids.U8 m) = eq-eqb m m refl
self-publisher (ids.U16 m) = eq-eqb m m refl
self-publisher (ids.U32 m) = eq-eqb m m refl
self-publisher (ids.U64 m) = eq-eqb m m refl
self-publisher (ids.Text m) = (bytes_eq-Decides m m).1 refl
