-- Worked scripts of endings with their transcripts. They were written by hand beside the rules, and follow from the
-- definitions by computing alone.
use Rattle.std.specs.Prelude.{◌≡◌, codes}
use Rattle.lpc_model.specs.Transcript.{transcript}

pub record WorkedEndings : Type 0 where
  -- A client dies whose request was received: first its thread's end is told on the port that it registered, then that
  -- its port is closed.
  pub death_with_a_request_received : transcript (codes "dir \\Windows\nboot 20 24\nboot 32 36\n24 NtCreatePort \\Windows\\ApiPort\n36 NtConnectPort \\Windows\\ApiPort - - -\n24 NtListenPort 4\n24 NtAcceptConnectPort 7 r:32.36.1: accept -\n24 NtCompleteConnectPort 8\n36 NtRegisterThreadTerminatePort 4\n36 NtRequestWaitReplyPort 4 d:61\n24 NtReplyWaitReceivePort 4\nthread 48 32\n48 NtTerminateProcess self 1\n24 NtReplyWaitReceivePort 4\n24 NtReplyWaitReceivePort 4\n24 NtReplyPort 4 r:32.36.2:43\n") ≡ codes "1 - dir 00000000\n2 - boot 00000000\n3 - boot 00000000\n4 24 NtCreatePort 00000000 h=4\n5 36 NtConnectPort wait id=1\n6 24 NtListenPort 00000000 msg=000018000a00000020000000240000000100000000000000\n7 24 NtAcceptConnectPort 00000000 h=8\n8 24 NtCompleteConnectPort 00000000\n8 *36 NtConnectPort 00000000 h=4 max=256 info=\n9 36 NtRegisterThreadTerminatePort 00000000\n10 36 NtRequestWaitReplyPort wait id=2\n11 24 NtReplyWaitReceivePort 00000000 ctx=00000007 msg=01001900010000002000000024000000020000000000000061\n12 - thread 00000000\n13 ~36 died 00000001\n13 ~48 died 00000001\n14 24 NtReplyWaitReceivePort 00000000 ctx=00000007 msg=0800200006000000200000002400000000000000000000000000000024000000\n15 24 NtReplyWaitReceivePort 00000000 ctx=00000007 msg=0800200005000000200000002400000001000000000000002400000001000000\n16 24 NtReplyPort c000000b\nend 16 18 4\n"
  -- A client dies whose request isn't received: the request leaves the queue.
  pub death_with_a_request_queued : transcript (codes "dir \\Windows\nboot 20 24\nboot 32 36\n24 NtCreatePort \\Windows\\ApiPort\n36 NtConnectPort \\Windows\\ApiPort - - -\n24 NtListenPort 4\n24 NtAcceptConnectPort 7 r:32.36.1: accept -\n24 NtCompleteConnectPort 8\n36 NtRequestWaitReplyPort 4 d:61\nthread 48 32\n48 NtTerminateProcess self 1\n24 NtReplyWaitReceivePort 4\n24 NtReplyWaitReceivePort 4\n") ≡ codes "1 - dir 00000000\n2 - boot 00000000\n3 - boot 00000000\n4 24 NtCreatePort 00000000 h=4\n5 36 NtConnectPort wait id=1\n6 24 NtListenPort 00000000 msg=000018000a00000020000000240000000100000000000000\n7 24 NtAcceptConnectPort 00000000 h=8\n8 24 NtCompleteConnectPort 00000000\n8 *36 NtConnectPort 00000000 h=4 max=256 info=\n9 36 NtRequestWaitReplyPort wait id=2\n10 - thread 00000000\n11 ~36 died 00000001\n11 ~48 died 00000001\n12 24 NtReplyWaitReceivePort 00000000 ctx=00000007 msg=0800200005000000200000002400000001000000000000002400000001000000\n13 24 NtReplyWaitReceivePort wait\nend 13 15 4\n"
  -- A client dies in a connect that isn't received: its connection request leaves the queue.
  pub death_in_a_connect_queued : transcript (codes "boot 20 24\nboot 32 36\nthread 40 32\n24 NtCreatePort \\P\n36 NtConnectPort \\P - - -\n40 NtTerminateProcess self 5\n24 NtListenPort 4\n") ≡ codes "1 - boot 00000000\n2 - boot 00000000\n3 - thread 00000000\n4 24 NtCreatePort 00000000 h=4\n5 36 NtConnectPort wait id=1\n6 ~36 died 00000005\n6 ~40 died 00000005\n7 24 NtListenPort wait\nend 7 8 3\n"
  -- A client dies in a connect that was received: no such client can be answered.
  pub death_in_a_connect_received : transcript (codes "boot 20 24\nboot 32 36\nthread 40 32\n24 NtCreatePort \\P\n36 NtConnectPort \\P - - -\n24 NtListenPort 4\n40 NtTerminateProcess self 5\n24 NtAcceptConnectPort 7 r:32.36.1: accept -\n") ≡ codes "1 - boot 00000000\n2 - boot 00000000\n3 - thread 00000000\n4 24 NtCreatePort 00000000 h=4\n5 36 NtConnectPort wait id=1\n6 24 NtListenPort 00000000 msg=000018000a00000020000000240000000100000000000000\n7 ~36 died 00000005\n7 ~40 died 00000005\n8 24 NtAcceptConnectPort c000000b\nend 8 9 3\n"
  -- A client dies in a connect that was accepted: the server port stays with a cut pair, and still receives from its
  -- connection port.
  pub death_in_a_connect_accepted : transcript (codes "boot 20 24\nboot 32 36\nthread 40 32\n24 NtCreatePort \\P\n36 NtConnectPort \\P - - -\n24 NtListenPort 4\n24 NtAcceptConnectPort 7 r:32.36.1: accept -\n40 NtTerminateProcess self 5\n24 NtCompleteConnectPort 8\n24 NtReplyWaitReceivePort 8\n") ≡ codes "1 - boot 00000000\n2 - boot 00000000\n3 - thread 00000000\n4 24 NtCreatePort 00000000 h=4\n5 36 NtConnectPort wait id=1\n6 24 NtListenPort 00000000 msg=000018000a00000020000000240000000100000000000000\n7 24 NtAcceptConnectPort 00000000 h=8\n8 ~36 died 00000005\n8 ~40 died 00000005\n9 24 NtCompleteConnectPort c0000037\n10 24 NtReplyWaitReceivePort wait\nend 10 11 4\n"
  -- A thread ends itself, and the ports of its process stay open for another thread that waits there; with the last
  -- thread they close.
  pub last_thread_closes_its_ports : transcript (codes "boot 20 24\nthread 28 20\nboot 32 36\n24 NtCreatePort \\P\n28 NtReplyWaitReceivePort 4\n24 NtTerminateThread self 3\n36 NtConnectPort \\P - - -\n28 NtTerminateThread self 4\n") ≡ codes "1 - boot 00000000\n2 - thread 00000000\n3 - boot 00000000\n4 24 NtCreatePort 00000000 h=4\n5 28 NtReplyWaitReceivePort wait\n6 ~24 died 00000003\n7 36 NtConnectPort wait id=1\n7 *28 NtReplyWaitReceivePort 00000000 ctx=00000000 msg=000018000a00000020000000240000000100000000000000\n8 ~28 died 00000004\n8 *36 NtConnectPort c0000041 info=\nend 8 10 2\n"
  -- A process that is connected to itself ends: nothing is left.
  pub both_sides_die_in_one_line : transcript (codes "boot 20 24\nthread 28 20\n24 NtCreatePort \\P\n28 NtConnectPort \\P - - -\n24 NtListenPort 4\n24 NtAcceptConnectPort 1 r:20.28.1: accept -\n24 NtCompleteConnectPort 8\n24 NtRegisterThreadTerminatePort 12\n24 NtTerminateProcess self 0\n") ≡ codes "1 - boot 00000000\n2 - thread 00000000\n3 24 NtCreatePort 00000000 h=4\n4 28 NtConnectPort wait id=1\n5 24 NtListenPort 00000000 msg=000018000a000000140000001c0000000100000000000000\n6 24 NtAcceptConnectPort 00000000 h=8\n7 24 NtCompleteConnectPort 00000000\n7 *28 NtConnectPort 00000000 h=12 max=256 info=\n8 24 NtRegisterThreadTerminatePort 00000000\n9 ~24 died 00000000\n9 ~28 died 00000000\nend 9 11 0\n"
  -- It ends while one of its threads waits for the other's reply.
  pub both_sides_die_in_a_request : transcript (codes "boot 20 24\nthread 28 20\n24 NtCreatePort \\P\n28 NtConnectPort \\P - - -\n24 NtListenPort 4\n24 NtAcceptConnectPort 1 r:20.28.1: accept -\n24 NtCompleteConnectPort 8\n28 NtRequestWaitReplyPort 12 d:61\n24 NtReplyWaitReceivePort 4\n24 NtTerminateProcess self 0xc0000005\n") ≡ codes "1 - boot 00000000\n2 - thread 00000000\n3 24 NtCreatePort 00000000 h=4\n4 28 NtConnectPort wait id=1\n5 24 NtListenPort 00000000 msg=000018000a000000140000001c0000000100000000000000\n6 24 NtAcceptConnectPort 00000000 h=8\n7 24 NtCompleteConnectPort 00000000\n7 *28 NtConnectPort 00000000 h=12 max=256 info=\n8 28 NtRequestWaitReplyPort wait id=2\n9 24 NtReplyWaitReceivePort 00000000 ctx=00000001 msg=0100190001000000140000001c000000020000000000000061\n10 ~24 died c0000005\n10 ~28 died c0000005\nend 10 12 0\n"
  -- A thread registers 16 ports, and no 17th; one that is registered may be registered again. A port that closed
  -- counts, and stands.
  pub sixteen_registrations : transcript (codes "boot 20 24\n24 NtCreatePort -\n24 NtCreatePort -\n24 NtCreatePort -\n24 NtCreatePort -\n24 NtCreatePort -\n24 NtCreatePort -\n24 NtCreatePort -\n24 NtCreatePort -\n24 NtCreatePort -\n24 NtCreatePort -\n24 NtCreatePort -\n24 NtCreatePort -\n24 NtCreatePort -\n24 NtCreatePort -\n24 NtCreatePort -\n24 NtCreatePort -\n24 NtCreatePort -\n24 NtRegisterThreadTerminatePort 4\n24 NtRegisterThreadTerminatePort 8\n24 NtRegisterThreadTerminatePort 12\n24 NtRegisterThreadTerminatePort 16\n24 NtRegisterThreadTerminatePort 20\n24 NtRegisterThreadTerminatePort 24\n24 NtRegisterThreadTerminatePort 28\n24 NtRegisterThreadTerminatePort 32\n24 NtRegisterThreadTerminatePort 36\n24 NtRegisterThreadTerminatePort 40\n24 NtRegisterThreadTerminatePort 44\n24 NtRegisterThreadTerminatePort 48\n24 NtRegisterThreadTerminatePort 52\n24 NtRegisterThreadTerminatePort 56\n24 NtRegisterThreadTerminatePort 60\n24 NtRegisterThreadTerminatePort 64\n24 NtRegisterThreadTerminatePort 68\n24 NtRegisterThreadTerminatePort 4\n24 NtClose 8\n24 NtRegisterThreadTerminatePort 68\n24 NtRegisterThreadTerminatePort 8\n24 NtQueryObject 4\n24 NtQueryObject 68\n") ≡ codes "1 - boot 00000000\n2 24 NtCreatePort 00000000 h=4\n3 24 NtCreatePort 00000000 h=8\n4 24 NtCreatePort 00000000 h=12\n5 24 NtCreatePort 00000000 h=16\n6 24 NtCreatePort 00000000 h=20\n7 24 NtCreatePort 00000000 h=24\n8 24 NtCreatePort 00000000 h=28\n9 24 NtCreatePort 00000000 h=32\n10 24 NtCreatePort 00000000 h=36\n11 24 NtCreatePort 00000000 h=40\n12 24 NtCreatePort 00000000 h=44\n13 24 NtCreatePort 00000000 h=48\n14 24 NtCreatePort 00000000 h=52\n15 24 NtCreatePort 00000000 h=56\n16 24 NtCreatePort 00000000 h=60\n17 24 NtCreatePort 00000000 h=64\n18 24 NtCreatePort 00000000 h=68\n19 24 NtRegisterThreadTerminatePort 00000000\n20 24 NtRegisterThreadTerminatePort 00000000\n21 24 NtRegisterThreadTerminatePort 00000000\n22 24 NtRegisterThreadTerminatePort 00000000\n23 24 NtRegisterThreadTerminatePort 00000000\n24 24 NtRegisterThreadTerminatePort 00000000\n25 24 NtRegisterThreadTerminatePort 00000000\n26 24 NtRegisterThreadTerminatePort 00000000\n27 24 NtRegisterThreadTerminatePort 00000000\n28 24 NtRegisterThreadTerminatePort 00000000\n29 24 NtRegisterThreadTerminatePort 00000000\n30 24 NtRegisterThreadTerminatePort 00000000\n31 24 NtRegisterThreadTerminatePort 00000000\n32 24 NtRegisterThreadTerminatePort 00000000\n33 24 NtRegisterThreadTerminatePort 00000000\n34 24 NtRegisterThreadTerminatePort 00000000\n35 24 NtRegisterThreadTerminatePort c0000044\n36 24 NtRegisterThreadTerminatePort 00000000\n37 24 NtClose 00000000\n38 24 NtRegisterThreadTerminatePort c0000044\n39 24 NtRegisterThreadTerminatePort c0000008\n40 24 NtQueryObject 00000000 type=port access=001f0001 handles=1 pointers=2\n41 24 NtQueryObject 00000000 type=port access=001f0001 handles=1 pointers=1\nend 41 41 19\n"
  -- Of a port that closed, and of one whose connection port closed, nothing is told.
  pub registered_ports_that_closed : transcript (codes "boot 20 24\nboot 32 36\nthread 40 32\n24 NtCreatePort \\P\n36 NtConnectPort \\P - - -\n24 NtListenPort 4\n24 NtAcceptConnectPort 7 r:32.36.1: accept -\n24 NtCompleteConnectPort 8\n36 NtCreatePort -\n40 NtRegisterThreadTerminatePort 8\n40 NtRegisterThreadTerminatePort 4\n36 NtClose 8\n40 NtTerminateThread self 6\n24 NtReplyWaitReceivePort 4\n36 NtRegisterThreadTerminatePort 4\n24 NtClose 4\n36 NtTerminateThread self 0\n24 NtReplyWaitReceivePort 8\n") ≡ codes "1 - boot 00000000\n2 - boot 00000000\n3 - thread 00000000\n4 24 NtCreatePort 00000000 h=4\n5 36 NtConnectPort wait id=1\n6 24 NtListenPort 00000000 msg=000018000a00000020000000240000000100000000000000\n7 24 NtAcceptConnectPort 00000000 h=8\n8 24 NtCompleteConnectPort 00000000\n8 *36 NtConnectPort 00000000 h=4 max=256 info=\n9 36 NtCreatePort 00000000 h=8\n10 40 NtRegisterThreadTerminatePort 00000000\n11 40 NtRegisterThreadTerminatePort 00000000\n12 36 NtClose 00000000\n13 ~40 died 00000006\n14 24 NtReplyWaitReceivePort 00000000 ctx=00000007 msg=0800200006000000200000002800000000000000000000000000000028000000\n15 36 NtRegisterThreadTerminatePort 00000000\n16 24 NtClose 00000000\n17 ~36 died 00000000\n18 24 NtReplyWaitReceivePort c0000037\nend 18 19 4\n"
  -- A server ends: a receive on the client port that its thread's port leads to is given the message; a request that
  -- isn't received ends with the connection port, one that was received with the server port.
  pub server_dies : transcript (codes "boot 20 24\nboot 32 36\nthread 40 32\nthread 44 32\n24 NtCreatePort \\P\n36 NtConnectPort \\P - - -\n24 NtListenPort 4\n24 NtAcceptConnectPort 7 r:32.36.1: accept -\n24 NtCompleteConnectPort 8\n24 NtRegisterThreadTerminatePort 8\n36 NtRequestWaitReplyPort 4 d:61\n24 NtReplyWaitReceivePort 4\n40 NtRequestWaitReplyPort 4 d:62\n44 NtReplyWaitReceivePort 4\n24 NtTerminateProcess self 9\n") ≡ codes "1 - boot 00000000\n2 - boot 00000000\n3 - thread 00000000\n4 - thread 00000000\n5 24 NtCreatePort 00000000 h=4\n6 36 NtConnectPort wait id=1\n7 24 NtListenPort 00000000 msg=000018000a00000020000000240000000100000000000000\n8 24 NtAcceptConnectPort 00000000 h=8\n9 24 NtCompleteConnectPort 00000000\n9 *36 NtConnectPort 00000000 h=4 max=256 info=\n10 24 NtRegisterThreadTerminatePort 00000000\n11 36 NtRequestWaitReplyPort wait id=2\n12 24 NtReplyWaitReceivePort 00000000 ctx=00000007 msg=01001900010000002000000024000000020000000000000061\n13 40 NtRequestWaitReplyPort wait id=1\n14 44 NtReplyWaitReceivePort wait\n15 ~24 died 00000009\n15 *44 NtReplyWaitReceivePort 00000000 ctx=00000000 msg=0800200006000000140000001800000000000000000000000000000018000000\n15 *40 NtRequestWaitReplyPort c0000253\n15 *36 NtRequestWaitReplyPort c0000253\nend 15 19 6\n"
  -- A handle to a port ends neither a thread nor a process; a thread that has ended makes no call.
  pub endings_refused : transcript (codes "boot 20 24\n24 NtCreatePort -\n24 NtTerminateThread 8 7\n24 NtTerminateThread 4 7\n24 NtTerminateProcess 4 9\n24 NtTerminateProcess 8 9\n24 NtTerminateThread self 7\n24 NtClose 4\n") ≡ codes "1 - boot 00000000\n2 24 NtCreatePort 00000000 h=4\n3 24 NtTerminateThread c0000008\n4 24 NtTerminateThread c0000024\n5 24 NtTerminateProcess c0000024\n6 24 NtTerminateProcess c0000008\n7 ~24 died 00000007\n8 24 nothread\nend 8 8 0\n"
  -- Clients of one server die in different states, and at last the server dies itself.
  pub clients_that_die : transcript (codes "# Clients of one server die in different states, and the server reads what tells so. At last the server dies itself.\ndir \\Windows\nboot 20 24\nthread 28 20\n24 NtCreatePort \\Windows\\ApiPort\n# Client 32 is connected; the request of 36 was received, 40 registered the port, and the server's thread 28 waits.\nboot 32 36\nthread 40 32\n36 NtConnectPort \\Windows\\ApiPort - - -\n24 NtListenPort 4\n24 NtAcceptConnectPort 7 r:32.36.1: accept -\n24 NtCompleteConnectPort 8\n40 NtRegisterThreadTerminatePort 4\n36 NtRequestWaitReplyPort 4 d:61\n24 NtReplyWaitReceivePort 4\n28 NtReplyWaitReceivePort 4\n40 NtQueryObject 4\n40 NtTerminateProcess self 1\n24 NtReplyPort 8 r:32.36.2:62\n28 NtReplyWaitReceivePort 4\n24 NtClose 8\n# Client 44 sends a datagram, asks, and ends before either is received: the request leaves the queue.\nboot 44 48\nthread 52 44\n48 NtConnectPort \\Windows\\ApiPort - - -\n24 NtListenPort 4\n24 NtAcceptConnectPort 9 r:44.48.1: accept -\n24 NtCompleteConnectPort 8\n48 NtRegisterThreadTerminatePort 4\n48 NtRequestPort 4 d:63\n48 NtRequestWaitReplyPort 4 d:64\n52 NtTerminateProcess self 0xc0000005\n24 NtReplyWaitReceivePort 4\n24 NtReplyWaitReceivePort 4\n24 NtReplyWaitReceivePort 4\n24 NtClose 8\n# Client 56 waits in two connects when it ends: that of 60 was accepted, that of 64 is not received.\nboot 56 60\nthread 64 56\nthread 68 56\n60 NtConnectPort \\Windows\\ApiPort - - -\n24 NtListenPort 4\n24 NtAcceptConnectPort 11 r:56.60.1: accept -\n64 NtConnectPort \\Windows\\ApiPort - - -\n68 NtTerminateProcess self 3\n24 NtCompleteConnectPort 8\n28 NtListenPort 4\n24 NtClose 8\n# Client 72 goes on when its thread 80 ends, which registered the port.\nboot 72 76\nthread 80 72\n76 NtConnectPort \\Windows\\ApiPort - - -\n28 NtAcceptConnectPort 13 r:72.76.1: accept -\n28 NtCompleteConnectPort 8\n80 NtRegisterThreadTerminatePort 8\n80 NtRegisterThreadTerminatePort 4\n80 NtTerminateThread 4 1\n80 NtTerminateThread self 4\n80 NtTerminateThread self 4\nthread 80 72\n24 NtReplyWaitReceivePort 4\n# The server's thread 24 registers its own end of that connection. Then the server ends, and client 72 is told.\n24 NtRegisterThreadTerminatePort 8\n76 NtReplyWaitReceivePort 4\n28 NtTerminateProcess 12 5\n28 NtTerminateProcess self 5\n76 NtReplyWaitReceivePort 4\nthread 84 20\n76 NtTerminateThread self 0\n") ≡ codes "2 - dir 00000000\n3 - boot 00000000\n4 - thread 00000000\n5 24 NtCreatePort 00000000 h=4\n7 - boot 00000000\n8 - thread 00000000\n9 36 NtConnectPort wait id=1\n10 24 NtListenPort 00000000 msg=000018000a00000020000000240000000100000000000000\n11 24 NtAcceptConnectPort 00000000 h=8\n12 24 NtCompleteConnectPort 00000000\n12 *36 NtConnectPort 00000000 h=4 max=256 info=\n13 40 NtRegisterThreadTerminatePort 00000000\n14 36 NtRequestWaitReplyPort wait id=2\n15 24 NtReplyWaitReceivePort 00000000 ctx=00000007 msg=01001900010000002000000024000000020000000000000061\n16 28 NtReplyWaitReceivePort wait\n17 40 NtQueryObject 00000000 type=port access=001f0001 handles=1 pointers=4\n18 ~36 died 00000001\n18 ~40 died 00000001\n18 *28 NtReplyWaitReceivePort 00000000 ctx=00000007 msg=0800200006000000200000002800000000000000000000000000000028000000\n19 24 NtReplyPort c000000b\n20 28 NtReplyWaitReceivePort 00000000 ctx=00000007 msg=0800200005000000200000002400000001000000000000002400000001000000\n21 24 NtClose 00000000\n23 - boot 00000000\n24 - thread 00000000\n25 48 NtConnectPort wait id=1\n26 24 NtListenPort 00000000 msg=000018000a0000002c000000300000000100000000000000\n27 24 NtAcceptConnectPort 00000000 h=8\n28 24 NtCompleteConnectPort 00000000\n28 *48 NtConnectPort 00000000 h=4 max=256 info=\n29 48 NtRegisterThreadTerminatePort 00000000\n30 48 NtRequestPort 00000000 id=2\n31 48 NtRequestWaitReplyPort wait id=3\n32 ~48 died c0000005\n32 ~52 died c0000005\n33 24 NtReplyWaitReceivePort 00000000 ctx=00000009 msg=01001900030000002c00000030000000020000000000000063\n34 24 NtReplyWaitReceivePort 00000000 ctx=00000009 msg=08002000060000002c0000003000000000000000000000000000000030000000\n35 24 NtReplyWaitReceivePort 00000000 ctx=00000009 msg=08002000050000002c0000003000000001000000000000003000000001000000\n36 24 NtClose 00000000\n38 - boot 00000000\n39 - thread 00000000\n40 - thread 00000000\n41 60 NtConnectPort wait id=1\n42 24 NtListenPort 00000000 msg=000018000a000000380000003c0000000100000000000000\n43 24 NtAcceptConnectPort 00000000 h=8\n44 64 NtConnectPort wait id=1\n45 ~60 died 00000003\n45 ~64 died 00000003\n45 ~68 died 00000003\n46 24 NtCompleteConnectPort c0000037\n47 28 NtListenPort wait\n48 24 NtClose 00000000\n50 - boot 00000000\n51 - thread 00000000\n52 76 NtConnectPort wait id=1\n52 *28 NtListenPort 00000000 msg=000018000a000000480000004c0000000100000000000000\n53 28 NtAcceptConnectPort 00000000 h=8\n54 28 NtCompleteConnectPort 00000000\n54 *76 NtConnectPort 00000000 h=4 max=256 info=\n55 80 NtRegisterThreadTerminatePort c0000008\n56 80 NtRegisterThreadTerminatePort 00000000\n57 80 NtTerminateThread c0000024\n58 ~80 died 00000004\n59 80 nothread\n60 - thread c0000035\n61 24 NtReplyWaitReceivePort 00000000 ctx=0000000d msg=0800200006000000480000005000000000000000000000000000000050000000\n63 24 NtRegisterThreadTerminatePort 00000000\n64 76 NtReplyWaitReceivePort wait\n65 28 NtTerminateProcess c0000008\n66 ~24 died 00000005\n66 ~28 died 00000005\n66 *76 NtReplyWaitReceivePort 00000000 ctx=00000000 msg=0800200006000000140000001800000000000000000000000000000018000000\n67 76 NtReplyWaitReceivePort c0000037\n68 - thread c000000b\n69 ~76 died 00000000\nend 69 74 0\n"
