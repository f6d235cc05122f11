use Rattle.std.proofs.Common.{◌≡◌, subst, ◌∙◌, ℕ, List, refl}
use Rattle.device.specs.Coming.{ComesTo}
use Rattle.device.specs.Sides.{HasListened}
use Rattle.device.specs.declared.asked.Next.{Next}
use Rattle.device.specs.declared.asked.Next.TheVariants.{Datagram}
use Rattle.device_laws.proofs.run.run_once.Goals as goal
use Rattle.device_laws.proofs.run.run_once.Goals.{in-Datagram, in_default}

pub returns-in-Some : goal.returns-in-Some
returns-in-Some c =
    let next : c.come_to.result ≡ Datagram = elim c.match-matches.branch [ in-Datagram w ↦ w.in-Datagram.is | in_default w ↦ absurd (let a = w.matches-is in let b = c.if-not-matches.false in cc) ] in
    let comes : ComesTo c.args.now Datagram c.set.new.self c.come_to.new.self =
    subst (λ (n : Next). ComesTo c.args.now n c.set.new.self c.come_to.new.self) next (record { waited = c.come_to.ensures.waited; came = c.come_to.ensures.came }) in
    let bytes = c.deref_mut.ensures.value ∙ c.in_ok-bytes.ensures.items ∙ c.datagram.ensures in
    record {
      run = record {
        run = record {
          first = c.in_ok-publisher.publisher;
          opened = record {
            is = c.in_ok-publisher.ensures.publisher;
            config_is = c.in_ok-publisher.ensures.ok;
            types = c.in_ok-publisher.ensures.types;
            rows = c.in_ok-publisher.ensures.rows;
            senders = c.in_ok-publisher.ensures.senders;
            sides = c.in_ok-publisher.ensures.sides;
            none_waits = c.in_ok-publisher.ensures.none_waits;
          };
          set = c.set.new.self;
          index = 0;
          field = 0;
          value = c.args.value.now;
          status = 0;
          was_set = c.if-not-set.ensures.set;
          set_is = c.set.ensures.publisher;
          now = c.args.now;
          came = c.come_to.new.self;
          comes = record { comes = comes; store = c.come_to.ensures.store };
          came_is = c.come_to.ensures.publisher;
          waits = c.come_to.ensures.waits next;
          reads = c.in_ok-subscriber.subscriber;
          reads_opened = record { is = c.in_ok-subscriber.ensures.subscriber; config_is = c.in_ok-subscriber.ensures.ok; groups = c.in_ok-subscriber.ensures.groups };
          later = c.args.now;
          left = c.datagram-2.new.bytes;
          answer = c.in-Some.field-0;
          heard = c.datagram-2.new.self;
          listened = subst (λ (d : List ℕ). HasListened 0 c.args.now d c.datagram-2.new.bytes c.in_ok-subscriber.subscriber c.datagram-2.new.self c.in-Some.field-0) bytes c.in-Some.ensures.listened;
          heard_is = c.datagram-2.ensures.subscriber;
        };
        publisher = refl;
        subscriber = refl;
      };
      publisher = c.come_to.ensures.publisher;
      subscriber = c.datagram-2.ensures.subscriber;
    }
