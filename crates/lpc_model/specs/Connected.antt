-- The two ports of a connection: what is sent on one enters the queue from which the other receives.
use Rattle.std.specs.Prelude.{◌≡◌, true, Some}
use Rattle.lpc_base.specs.declared.port_kind.PortKind.TheVariants.{Client, Server}
use Rattle.lpc_model.specs.World.{Birth, PortRow, World}
use Rattle.lpc_model.specs.Found.{is_open, queue_of, route}

-- a client port and a server port are each other's pair, and they and their connection port are open
pub record AreConnected (w : World) (client server : PortRow) (connection : Birth) : Type 0 where
  pub is_client : client.kind ≡ Client
  pub is_server : server.kind ≡ Server
  pub client_pair : client.pair ≡ Some server.birth
  pub server_pair : server.pair ≡ Some client.birth
  pub client_connection : client.connection ≡ Some connection
  pub server_connection : server.connection ≡ Some connection
  pub client_open : is_open w client.birth ≡ true
  pub server_open : is_open w server.birth ≡ true
  pub connection_open : is_open w connection ≡ true

-- a message that is sent on a port enters a queue from which another port receives
pub record ReachesBy (w : World) (queue : Birth) (from to : PortRow) : Type 0 where
  pub enters : route w from ≡ Some queue
  pub receives : queue_of w to ≡ Some queue

-- the ports of a connection reach each other: the client port by its own queue, the server port by its connection
-- port's
pub record ReachEachOther (w : World) (client server : PortRow) (connection : Birth) : Type 0 where
  pub to_client : ReachesBy w client.birth server client
  pub to_server : ReachesBy w connection client server

abbrev pub ConnectedPortsReachEachOther : Type 0
ConnectedPortsReachEachOther =
    (w : World) (client server : PortRow) (connection : Birth) → AreConnected w client server connection → ReachEachOther w client server connection
