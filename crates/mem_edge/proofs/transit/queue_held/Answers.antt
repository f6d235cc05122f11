use Rattle.std.proofs.Common.{List, Option, ◌++◌, ◌∷◌, [], take, sym, ap, ◌∙◌, append_assoc, arith}
use Rattle.std.specs.List.{cons_option}
use Rattle.std.proofs.lemmas.List.{append-nil}
use Rattle.mem_edge.specs.declared.mark.Source.{Source}
use Rattle.mem_edge.specs.Marks.{held_places}
use Rattle.mem_edge.proofs.Comes.{held_more}
use Rattle.mem_edge.proofs.transit.queue_held.Goals.{in-Some, in-None}
use Rattle.mem_edge.proofs.transit.queue_held.Goals as goal

pub loop-hold-preserved : goal.loop-hold-preserved
loop-hold-preserved c =
    let queue : List Source = c.args.queue.now.items in
    let before : List Source = held_places c.args.places.now (take c.loop-hold.hold-index c.args.held.now) in
    let more = held_more c.args.places.now c.args.held.now c.loop-hold.hold-index (0, 0) (omega arith) in
    elim c.match-place_of.branch [
      | in-Some w ↦ rw w.queue-is (record {
        items =
            w.queue_one.ensures.items ∙ ap (λ (l : List Source). l ++ w.in-Some.place ∷ []) c.loop-hold.invariant.items ∙ append_assoc queue before (w.in-Some.place ∷ [])
            ∙ ap (λ (l : List Source). queue ++ l) (sym (more ∙ ap (λ (o : Option Source). before ++ cons_option o []) (sym w.in-Some.ensures)));
        len = omega arith;
        capacity = omega arith;
      })
      | in-None w ↦ rw w.queue-is (record {
        items =
            c.loop-hold.invariant.items
            ∙ ap (λ (l : List Source). queue ++ l) (sym (more ∙ ap (λ (o : Option Source). before ++ cons_option o []) (sym w.in-None.ensures) ∙ append-nil before));
        len = omega arith;
        capacity = omega arith;
      })
    ]
