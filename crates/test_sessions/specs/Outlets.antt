-- A gateway with what its calls are given.
use Rattle.std.specs.Prelude.{◌≡◌, ◌<◌, false, List}
use Rattle.session_model.specs.Lives.{Lived}
use Rattle.gateway_core.specs.Holding.{IsGateway, left_of}
use Rattle.gateway_core.specs.Lived.{GatewayStep}
use Rattle.gateway_core.specs.Living.{StandsIn}
use Rattle.test_sessions.specs.Devices.{IsSmall}
use Rattle.test_sessions.specs.declared.outlet.Outlet.{Outlet}

-- its gateway is of the configuration, whatever it lived through, and may have as many ticks as it says, and then the closing one
pub record IsOutlet (outlet : Outlet) : Type 0 where
  pub gateway_is : IsGateway outlet.gateway
  pub small : IsSmall outlet.config.now
  pub lived : List GatewayStep
  pub life : List Lived
  pub stands : StandsIn outlet.config.now lived life outlet.gateway
  pub running : (left_of outlet.gateway).is_closed ≡ false
  pub left : outlet.ticks < (left_of outlet.gateway).ticks
