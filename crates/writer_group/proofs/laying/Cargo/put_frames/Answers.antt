use Rattle.std.proofs.Common.{◌++◌, List, ℕ, length, map, take, drop, sym, ap, ◌∙◌, arith}
use Rattle.std.proofs.lemmas.List.{length-append}
use Rattle.std.specs.Prelude.{slice_range}
use Rattle.std.specs.List.{flat_map}
use Rattle.ua_binary.proofs.Laying.{Puts-then}
use Rattle.uadp_header.proofs.Puttings.{Puts-same}
use Rattle.payload_layout.specs.Payloads.{sizes_bytes}
use Rattle.writer_group.specs.Holding.{frames_at, listed}
use Rattle.writer_group.specs.Payloads.{size_of}
use Rattle.writer_group.proofs.LoadBytes.{payload-is, sizes-read, text_at, texts-read}
use Rattle.writer_group.proofs.laying.Cargo.put_frames.Goals as goal

pub put_sizes-requires-clause-room : goal.put_sizes-requires-clause-room
put_sizes-requires-clause-room c =
    let cargo = c.args.self.now in
    let bytes = cargo.bytes.now in
    let frames = cargo.frames.now in
    let mine = take c.args.count (drop c.args.first (frames_at bytes frames)) in
    let sizes = sizes-read bytes frames c.sizes.result.now c.from-first.result c.from.result c.args.first c.args.count
    c.requires.cargo.spelled c.sizes.ensures c.from-first.ensures c.from.ensures in
    omega (
      arith,
      ap (λ (l : List ℕ). length (sizes_bytes l)) sizes,
      ap length (payload-is bytes (listed frames) c.args.first c.args.count),
      length-append (sizes_bytes (map size_of mine)) (flat_map (text_at bytes) (take c.args.count (drop c.args.first (listed frames)))),
      c.requires.room,
    )

pub put_bytes-requires : goal.put_bytes-requires
put_bytes-requires c =
    let cargo = c.args.self.now in
    let bytes = cargo.bytes.now in
    let frames = cargo.frames.now in
    let mine = take c.args.count (drop c.args.first (frames_at bytes frames)) in
    let sizes = sizes-read bytes frames c.sizes.result.now c.from-first.result c.from.result c.args.first c.args.count
    c.requires.cargo.spelled c.sizes.ensures c.from-first.ensures c.from.ensures in
    let range = c.range-start in
    let read : List ℕ = slice_range bytes range.result.0 range.result.1 in
    let texts = texts-read bytes (listed frames) read c.from-first.result c.from-2.result c.args.first c.args.count range.ensures.bytes c.from-first.ensures c.from-2.ensures in
    omega (
      arith,
      ap (λ (l : List ℕ). length (sizes_bytes l)) sizes,
      ap length texts,
      ap length (payload-is bytes (listed frames) c.args.first c.args.count),
      length-append (sizes_bytes (map size_of mine)) (flat_map (text_at bytes) (take c.args.count (drop c.args.first (listed frames)))),
      c.put_sizes.ensures.moved,
      c.put_sizes.ensures.same_length,
      c.requires.room,
    )

pub returns : goal.returns
returns c =
    let cargo = c.args.self.now in
    let bytes = cargo.bytes.now in
    let frames = cargo.frames.now in
    let mine = take c.args.count (drop c.args.first (frames_at bytes frames)) in
    let sizes = sizes-read bytes frames c.sizes.result.now c.from-first.result c.from.result c.args.first c.args.count
    c.requires.cargo.spelled c.sizes.ensures c.from-first.ensures c.from.ensures in
    let range = c.range-start in
    let read : List ℕ = slice_range bytes range.result.0 range.result.1 in
    let texts = texts-read bytes (listed frames) read c.from-first.result c.from-2.result c.args.first c.args.count range.ensures.bytes c.from-first.ensures c.from-2.ensures in
    Puts-same c.args.pen.now c.put_bytes.new.self _ _ (Puts-then c.args.pen.now c.put_sizes.new.pen c.put_bytes.new.self _ _ c.put_sizes.ensures c.put_bytes.ensures) (
    ap (λ (l : List ℕ). sizes_bytes l ++ read) sizes
    ∙ ap (λ (l : List ℕ). sizes_bytes (map size_of mine) ++ l) texts
    ∙ sym (payload-is bytes (listed frames) c.args.first c.args.count)
    )
