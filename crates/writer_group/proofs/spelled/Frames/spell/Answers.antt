use Rattle.std.proofs.Common.{◌++◌, ◌∷◌, [], ℕ, refl, ap, ◌∙◌, arith}
use Rattle.frame_codec.specs.Words.{frame_in}
use Rattle.writer_group.specs.declared.spelled.SpelledFrame.{SpelledFrame}
use Rattle.writer_group.specs.Holding.{frames_at}
use Rattle.writer_group.specs.Payloads.{Spelled, laid_frame}
use Rattle.writer_group.proofs.LoadBytes.{length-ids}
use Rattle.writer_group.proofs.SpelledLaws.{IsSpelledOn, spelled-keeps, spelled-on}
use Rattle.writer_group.proofs.spelled.Frames.spell.Goals as goal

pub keep-requires-clause-ids : goal.keep-requires-clause-ids
keep-requires-clause-ids c = length-ids c.args.bytes.now c.args.self.now c.requires.spelled

pub returns-clause-spelled : goal.returns-clause-spelled
returns-clause-spelled c =
    let old = c.args.self.now in
    let text = laid_frame c.args.layout c.args.meta.now (frame_in c.args.meta.now.fields c.args.frame.now) in
    let frame : SpelledFrame = record { writer = c.args.writer; id = c.args.part.now.id; number = c.number_in.result; start = old.end; end = c.put_frame-end.result } in
    let on : IsSpelledOn c.args.bytes.now c.put_frame-end.new.bytes old c.keep.new.self text frame = record {
      laid_is = c.put_frame-end.ensures.laid;
      list_is = c.keep.ensures.list;
      start_is = refl;
      end_is = c.put_frame-end.ensures.end;
      last = c.keep.ensures.end;
      sizes_is = c.keep.ensures.sizes;
      ids_is = c.keep.ensures.ids;
      short = omega (arith, c.put_frame-end.ensures.end, c.put_frame-end.ensures.short);
      room = omega (arith, c.requires.spelled.short, c.requires.few, c.requires.room);
    } in
    spelled-keeps c.args.bytes.now c.put_frame-end.new.bytes old c.keep.new.self text frame c.put_frame-end.auto.bytes c.requires.spelled on

pub returns-clause-added : goal.returns-clause-added
returns-clause-added c =
    let old = c.args.self.now in
    let text = laid_frame c.args.layout c.args.meta.now (frame_in c.args.meta.now.fields c.args.frame.now) in
    let frame : SpelledFrame = record { writer = c.args.writer; id = c.args.part.now.id; number = c.number_in.result; start = old.end; end = c.put_frame-end.result } in
    let on : IsSpelledOn c.args.bytes.now c.put_frame-end.new.bytes old c.keep.new.self text frame = record {
      laid_is = c.put_frame-end.ensures.laid;
      list_is = c.keep.ensures.list;
      start_is = refl;
      end_is = c.put_frame-end.ensures.end;
      last = c.keep.ensures.end;
      sizes_is = c.keep.ensures.sizes;
      ids_is = c.keep.ensures.ids;
      short = omega (arith, c.put_frame-end.ensures.end, c.put_frame-end.ensures.short);
      room = omega (arith, c.requires.spelled.short, c.requires.few, c.requires.room);
    } in
    let numbered : ℕ → Spelled = λ (n : ℕ). record { writer = c.args.writer; id = c.args.part.now.id; number = n; bytes = text } in
    spelled-on c.args.bytes.now c.put_frame-end.new.bytes old c.keep.new.self text frame c.requires.spelled on
    ∙ ap (λ (n : ℕ). frames_at c.args.bytes.now old ++ numbered n ∷ []) c.number_in.ensures
