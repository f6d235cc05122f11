use Rattle.std.proofs.Common.{ap, ◌∙◌, ℕ, Vec}
use Rattle.std.specs.Prelude.{◌==◌, filter}
use Rattle.std.specs.List.{filter_map}
use Rattle.std.specs.declared.alloc.Global.{Global}
use Rattle.ua_base.specs.declared.link.Fate.{Fate}
use Rattle.mem_edge.specs.Holds.{hold_of}
use Rattle.mem_edge.proofs.Waiting.{places_same}
use Rattle.mem_edge.proofs.plan.Plan.new.Goals as goal

pub returns : goal.returns
returns c = record {
  fated = λ number. c.in_ok-fates.ensures number ∙ ap (filter (λ (f : ℕ × Fate). f.0 == number)) c.in_ok-from_slice.ensures.items;
  held = λ number. c.in_ok-held.ensures number ∙ ap (filter (λ (h : ℕ × ℕ). h.0 == number)) (c.in_ok-holds.ensures ∙ ap (filter_map (λ (f : ℕ × Fate). hold_of f.0 f.1)) c.deref.ensures.value);
  placed = λ number. c.in_ok-injected.ensures number ∙ ap (filter (λ (p : ℕ × ℕ). p.0 == number)) (c.in_ok-places.ensures ∙ places_same (λ (v : Vec ℕ Global). v.items) 0 c.args.injected.now);
}
