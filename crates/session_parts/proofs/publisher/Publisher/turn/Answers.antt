use Rattle.std.proofs.Common.{refl, ◌≡◌, Some, None, length, take, ap, sym, ◌∙◌, arith}
use Rattle.std.proofs.lemmas.List.{length-set}
use Rattle.std.proofs.lemmas.List.FromFn.{length-map-range_with_len}
use Rattle.std.proofs.lemmas.List.Elements.{All-set}
use Rattle.message_guard.specs.Senders.{IsSender}
use Rattle.ps_config.specs.declared.parts.GroupPart.{GroupPart}
use Rattle.pubsub_states.specs.declared.component.Component.TheVariants.{Writer}
use Rattle.pubsub_states.specs.Changes.{flags_in}
use Rattle.pubsub_states.specs.States.{state_of, is_operational}
use Rattle.writer_group.specs.Parts.{group_at}
use Rattle.session_parts.proofs.Few.{few-writers}
use Rattle.session_parts.proofs.Logging.{set-logged}
use Rattle.session_parts.proofs.Taking.{may-turn, open-sender, secured-sender, groups-after, own-after, goes-on-after}
use Rattle.session_parts.proofs.TurnParts.{turned-open, turned-secured}
use Rattle.session_parts.proofs.publisher.Publisher.turn.Goals as goal

pub writers_on-all_on-requires-clause-few : goal.writers_on-all_on-requires-clause-few
writers_on-all_on-requires-clause-few c =
    let may = c.requires.may in
    omega (arith, ap length c.as_slice-count.ensures, ap (λ (p : GroupPart). length p.writer) c.group_part-part.ensures, few-writers c.args.told.now.config.now c.args.g may.good may.within)

pub slice_bounds-all_on-end : goal.slice_bounds-all_on-end
slice_bounds-all_on-end c =
    let may = c.requires.may in
    omega (arith, ap length c.as_slice-count.ensures, ap (λ (p : GroupPart). length p.writer) c.group_part-part.ensures, few-writers c.args.told.now.config.now c.args.g may.good may.within)

pub slice_bounds-on-end : goal.slice_bounds-on-end
slice_bounds-on-end c =
    let may = c.requires.may in
    omega (
      arith,
      ap length c.as_slice-count.ensures,
      ap (λ (p : GroupPart). length p.writer) c.group_part-part.ensures,
      few-writers c.args.told.now.config.now c.args.g may.good may.within,
      ap length c.writers_on-all_on.ensures,
      length-map-range_with_len (λ w. is_operational (state_of (flags_in c.args.tree.now) (Writer c.args.g w))) 0 (length c.as_slice-count.result.now),
    )

pub turn_open-requires-clause-may : goal.turn_open-requires-clause-may
turn_open-requires-clause-may c =
    let may = c.requires.may in
    let told = c.args.told.now in
    let count : length c.as_slice-count.result.now ≡ length (group_at told.config.now c.args.g).writer
    = ap length c.as_slice-count.ensures ∙ ap (λ (p : GroupPart). length p.writer) c.group_part-part.ensures in
    may-turn told c.args.g c.args.self.now c.args.tree.now (take (length c.as_slice-count.result.now) c.writers_on-all_on.result) None c.index_mut-group.result.now may
    c.index_mut-group.ensures.value
    (ap length c.writers_on-all_on.ensures ∙ length-map-range_with_len _ 0 (length c.as_slice-count.result.now) ∙ count)
    (open-sender told c.args.g c.args.self.now c.args.tree.now may (ap (λ (p : GroupPart). p.keygroup) (sym c.group_part-part.ensures) ∙ c.in-None.is))

pub turn_secured-requires-clause-may : goal.turn_secured-requires-clause-may
turn_secured-requires-clause-may c =
    let may = c.requires.may in
    let told = c.args.told.now in
    let count : length c.as_slice-count.result.now ≡ length (group_at told.config.now c.args.g).writer
    = ap length c.as_slice-count.ensures ∙ ap (λ (p : GroupPart). length p.writer) c.group_part-part.ensures in
    may-turn told c.args.g c.args.self.now c.args.tree.now (take (length c.as_slice-count.result.now) c.writers_on-all_on.result) (Some c.index_mut.result.now) c.index_mut-group.result.now may
    c.index_mut-group.ensures.value
    (ap length c.writers_on-all_on.ensures ∙ length-map-range_with_len _ 0 (length c.as_slice-count.result.now) ∙ count)
    (secured-sender told c.args.g c.from.result c.args.self.now c.args.tree.now c.index_mut.result.now may
    (ap (λ (p : GroupPart). p.keygroup) (sym c.group_part-part.ensures) ∙ c.in-Some.is ∙ ap Some (sym c.from.ensures)) c.index_mut.ensures.value c.requires.unspent)

pub returns-in-None-clause-turned : goal.returns-in-None-clause-turned
returns-in-None-clause-turned c =
    λ t so_far done is.
    let told = c.args.told.now in
    turned-open t c.args.g (length c.as_slice-count.result.now) c.turn_open.result so_far done told c.args.self.now _ c.args.tree.now
    (take (length c.as_slice-count.result.now) c.writers_on-all_on.result) c.index_mut-group.result.now c.turn_open.new.group c.requires.may c.index_mut-group.ensures.value
    (ap (λ (p : GroupPart). p.keygroup) (sym c.group_part-part.ensures) ∙ c.in-None.is)
    (ap length c.as_slice-count.ensures ∙ ap (λ (p : GroupPart). length p.writer) c.group_part-part.ensures)
    c.writers_on-all_on.ensures c.turn_open.ensures.turned refl refl is

pub returns-in-Some-clause-turned : goal.returns-in-Some-clause-turned
returns-in-Some-clause-turned c =
    λ t so_far done is.
    let told = c.args.told.now in
    turned-secured t c.args.g c.from.result (length c.as_slice-count.result.now) c.turn_secured.result so_far done told c.args.self.now _ c.args.tree.now
    (take (length c.as_slice-count.result.now) c.writers_on-all_on.result) c.index_mut-group.result.now c.turn_secured.new.group c.index_mut.result.now c.turn_secured.new.sender
    c.requires.may c.index_mut-group.ensures.value
    (ap (λ (p : GroupPart). p.keygroup) (sym c.group_part-part.ensures) ∙ c.in-Some.is ∙ ap Some (sym c.from.ensures))
    (ap length c.as_slice-count.ensures ∙ ap (λ (p : GroupPart). length p.writer) c.group_part-part.ensures)
    c.writers_on-all_on.ensures c.index_mut.ensures.value c.turn_secured.ensures.turned c.turn_secured.ensures.sender refl refl is

pub returns-in-None-clause-holds : goal.returns-in-None-clause-holds
returns-in-None-clause-holds c =
    let may = c.requires.may in
    let told = c.args.told.now in
    record {
      groups = groups-after told.config.now c.args.self.now.groups.items c.args.g c.turn_open.new.group may.holds.groups may.within
          (own-after told c.args.g c.turn_open.result c.args.self.now c.args.tree.now (take (length c.as_slice-count.result.now) c.writers_on-all_on.result) None
          c.index_mut-group.result.now c.turn_open.new.group c.turn_open.new.out may c.index_mut-group.ensures.value c.turn_open.ensures.turned);
      senders = may.holds.senders;
      reserved = c.turn_open.ensures.turned.reserved;
      sends = may.holds.sends;
    }

pub returns-in-Some-clause-holds : goal.returns-in-Some-clause-holds
returns-in-Some-clause-holds c =
    let may = c.requires.may in
    let told = c.args.told.now in
    record {
      groups = groups-after told.config.now c.args.self.now.groups.items c.args.g c.turn_secured.new.group may.holds.groups may.within
          (own-after told c.args.g c.turn_secured.result c.args.self.now c.args.tree.now (take (length c.as_slice-count.result.now) c.writers_on-all_on.result) (Some c.index_mut.result.now)
          c.index_mut-group.result.now c.turn_secured.new.group c.turn_secured.new.out may c.index_mut-group.ensures.value c.turn_secured.ensures.turned);
      senders = record {
        count = length-set c.args.self.now.senders.items c.from.result c.turn_secured.new.sender ∙ may.holds.senders.count;
        each = All-set IsSender c.args.self.now.senders.items c.from.result c.turn_secured.new.sender c.turn_secured.ensures.sender_is may.holds.senders.each;
      };
      reserved = c.turn_secured.ensures.turned.reserved;
      sends = may.holds.sends;
    }

pub returns-in-None-clause-goes_on : goal.returns-in-None-clause-goes_on
returns-in-None-clause-goes_on c =
    λ turns goes.
    goes-on-after c.args.told.now c.args.g c.turn_open.result turns c.args.self.now c.args.tree.now (take (length c.as_slice-count.result.now) c.writers_on-all_on.result) None
    c.index_mut-group.result.now c.turn_open.new.group c.turn_open.new.out c.requires.may c.index_mut-group.ensures.value c.turn_open.ensures.turned goes

pub returns-in-Some-clause-goes_on : goal.returns-in-Some-clause-goes_on
returns-in-Some-clause-goes_on c =
    λ turns goes.
    goes-on-after c.args.told.now c.args.g c.turn_secured.result turns c.args.self.now c.args.tree.now (take (length c.as_slice-count.result.now) c.writers_on-all_on.result)
    (Some c.index_mut.result.now) c.index_mut-group.result.now c.turn_secured.new.group c.turn_secured.new.out c.requires.may c.index_mut-group.ensures.value c.turn_secured.ensures.turned goes

pub returns-in-None-clause-logs : goal.returns-in-None-clause-logs
returns-in-None-clause-logs c =
    let may = c.requires.may in
    set-logged c.args.self.now.groups.items c.args.g c.index_mut-group.result.now c.turn_open.new.group (omega (arith, may.within, may.holds.groups.count)) c.index_mut-group.ensures.value
    c.turn_open.ensures.turned.logs

pub returns-in-Some-clause-logs : goal.returns-in-Some-clause-logs
returns-in-Some-clause-logs c =
    let may = c.requires.may in
    set-logged c.args.self.now.groups.items c.args.g c.index_mut-group.result.now c.turn_secured.new.group (omega (arith, may.within, may.holds.groups.count)) c.index_mut-group.ensures.value
    c.turn_secured.ensures.turned.logs
