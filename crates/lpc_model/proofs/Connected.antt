-- The ports of a connection reach each other.
use Rattle.std.proofs.Common.{◌≡◌, true, Some, refl}
use Rattle.lpc_base.specs.declared.port_kind.PortKind.TheVariants.{Client, Server}
use Rattle.lpc_model.specs.World.{Birth, PortRow, World}
use Rattle.lpc_model.specs.Found.{if_open, is_open, queue_of, route}
use Rattle.lpc_model.specs.Connected.{ConnectedPortsReachEachOther}

opens : (w : World) (b : Birth) → is_open w b ≡ true → if_open w (Some b) ≡ Some b
opens w b is = rw is refl

sent-to-client : (w : World) (server : PortRow) (client : Birth) → server.kind ≡ Server → server.pair ≡ Some client → is_open w server.birth ≡ true → is_open w client ≡ true → route w server ≡ Some client
sent-to-client w server client kind pair own other = rw (own, kind, pair, other) refl

sent-to-server : (w : World) (client : PortRow) (server connection : Birth) → client.kind ≡ Client → client.pair ≡ Some server → client.connection ≡ Some connection → is_open w client.birth ≡ true → is_open w connection ≡ true → route w client ≡ Some connection
sent-to-server w client server connection kind pair joined own other = rw (own, kind, pair, joined, other) refl

client-queue : (w : World) (client : PortRow) → client.kind ≡ Client → is_open w client.birth ≡ true → queue_of w client ≡ Some client.birth
client-queue w client kind own = rw (kind, own) refl

server-queue : (w : World) (server : PortRow) (connection : Birth) → server.kind ≡ Server → server.connection ≡ Some connection → is_open w connection ≡ true → queue_of w server ≡ Some connection
server-queue w server connection kind joined other = rw (kind, joined, other) refl

pub reach_each_other : ConnectedPortsReachEachOther
reach_each_other w client server connection c = record {
  to_client = record {
    enters = sent-to-client w server client.birth c.is_server c.server_pair c.server_open c.client_open;
    receives = client-queue w client c.is_client c.client_open;
  };
  to_server = record {
    enters = sent-to-server w client server.birth connection c.is_client c.client_pair c.client_connection c.client_open c.connection_open;
    receives = server-queue w server connection c.is_server c.server_connection c.connection_open;
  };
}
