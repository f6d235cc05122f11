use Rattle.std.proofs.Common.{◌≡◌, ◌<◌, ℕ, Bool, List, length, map, ap, ◌∙◌, subst, arith}
use Rattle.std.specs.Vec.{with_item}
use Rattle.group_keys.specs.Ring.{key_sets}
use Rattle.message_guard.specs.declared.keys.TokenKeys.{TokenKeys}
use Rattle.message_guard.specs.Protection.{keys_in}
use Rattle.ps_config.specs.declared.parts.ReadGroupPart.{ReadGroupPart}
use Rattle.session_model.specs.Readings.{reads_with}
use Rattle.session_parts.specs.declared.subscriber.Subscriber.{Subscriber}
use Rattle.session_parts.specs.Renewing.{IsRekeyedIf}
use Rattle.session_parts.proofs.Each.{EachTo, each-more}
use Rattle.session_parts.proofs.Rekeying.{RekeysAt, rekeyed-hold, rekeyed-read}
use Rattle.session_parts.proofs.subscriber.Subscriber.renew.Goals as goal

pub loop-r-preserved : goal.loop-r-preserved
loop-r-preserved c =
    let e = c.renew_if.ensures in
    let mid = c.loop-r.self.groups.items in
    let keys : List TokenKeys = map keys_in (key_sets c.args.ring.now) in
    let low : c.loop-r.r < length mid = omega (arith, c.loop-r-test.true, c.len-r-end.ensures, c.args.self.now.groups.ok.0, c.loop-r.invariant.each.count) in
    record {
      each = each-more (RekeysAt c.args.config.now c.args.key_group keys) c.loop-r.r c.args.self.now.groups.items mid c.index_mut.result.now c.renew_if.new.group low c.index_mut.ensures.value
          (record {
            index = e.index;
            made = e.made;
            rekeyed = subst (λ (b : Bool). IsRekeyedIf b keys c.index_mut.result.now c.renew_if.new.group)
                (c.reads_with-is_rekeyed.ensures ∙ ap (λ (p : ReadGroupPart). reads_with p c.args.key_group) c.read_group_part.ensures) e.rekeyed;
          }) c.loop-r.invariant.each;
      rest = ap (λ (s : Subscriber). record s { groups = with_item c.loop-r.self.groups c.loop-r.r c.renew_if.new.group }) c.loop-r.invariant.rest;
    }

pub returns-clause-holds : goal.returns-clause-holds
returns-clause-holds c =
    let old = c.args.self.now in
    let keys : List TokenKeys = map keys_in (key_sets c.args.ring.now) in
    let all : c.loop-r.r ≡ length old.groups.items = omega (arith, c.loop-r-test.false, c.loop-r.auto.r-end, c.len-r-end.ensures, old.groups.ok.0) in
    rekeyed-hold c.args.config.now c.args.key_group keys old c.loop-r.self
    (subst (λ (n : ℕ). EachTo (RekeysAt c.args.config.now c.args.key_group keys) n old.groups.items c.loop-r.self.groups.items) all c.loop-r.invariant.each)
    (ap (λ (s : Subscriber). s.tallies) c.loop-r.invariant.rest) c.requires.holds

pub returns-clause-rekeyed : goal.returns-clause-rekeyed
returns-clause-rekeyed c =
    let old = c.args.self.now in
    let keys : List TokenKeys = map keys_in (key_sets c.args.ring.now) in
    let all : c.loop-r.r ≡ length old.groups.items = omega (arith, c.loop-r-test.false, c.loop-r.auto.r-end, c.len-r-end.ensures, old.groups.ok.0) in
    rekeyed-read c.args.config.now c.args.key_group keys old c.loop-r.self
    (subst (λ (n : ℕ). EachTo (RekeysAt c.args.config.now c.args.key_group keys) n old.groups.items c.loop-r.self.groups.items) all c.loop-r.invariant.each)
    c.requires.holds
