use Rattle.bench_soak.proofs.subscriber.Subscriber.new.Goals as goal

-- a renewal leaves it a group of the configuration
pub returns : goal.returns
returns c = c.renew.ensures.made c.args.config.now c.in_ok-group.ensures.made
