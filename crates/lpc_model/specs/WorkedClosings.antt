-- Worked scripts of closings with their transcripts. They were written by hand beside the rules, and follow from the
-- definitions by computing alone.
use Rattle.std.specs.Prelude.{◌≡◌, codes}
use Rattle.lpc_model.specs.Transcript.{transcript}

pub record WorkedClosings : Type 0 where
  -- A server closes while its clients wait in every state.
  pub closing_server : transcript (codes "# A server closes while its clients wait in every state. Each wait ends where nothing more can come of it.\ndir \\Windows\nboot 20 24\nthread 28 20\n24 NtCreatePort \\Windows\\ApiPort\n# A port for which a thread listens. Its value is free again afterwards.\n24 NtCreatePort \\Windows\\SbApiPort\n28 NtListenPort 8\n24 NtClose 8\n# Process 32 is connected. Thread 44 waits for what the server sends; the request of 36 is received, that of 40 is not.\nboot 32 36\nthread 40 32\nthread 44 32\n36 NtConnectPort \\Windows\\ApiPort - - -\n24 NtListenPort 4\n24 NtAcceptConnectPort 7 r:32.36.1: accept -\n24 NtCompleteConnectPort 8\n44 NtReplyWaitReceivePort 4\n36 NtRequestWaitReplyPort 4 d:61\n28 NtReplyWaitReceivePort 4\n40 NtRequestWaitReplyPort 4 d:62\n# The connect of thread 52 is accepted, that of 60 is received, that of 68 is queued.\nboot 48 52\n52 NtConnectPort \\Windows\\ApiPort - - -\n24 NtListenPort 4\n24 NtAcceptConnectPort 9 r:48.52.1: accept -\nboot 56 60\n60 NtConnectPort \\Windows\\ApiPort - - -\n24 NtListenPort 4\nboot 64 68\n68 NtConnectPort \\Windows\\ApiPort - - -\n# The server asks itself: this request was sent on the port that closes.\n28 NtRequestWaitReplyPort 4 d:63\n# The connection port: its own request, then the queued one, then the connects that aren't accepted.\n24 NtClose 4\n# The name is gone. The received request could still be answered, and the accepted connect completed.\n68 NtConnectPort \\Windows\\ApiPort - - -\n# The server port of the accepted connect.\n24 NtClose 12\n# The server port of process 32: its request, then its receive.\n24 NtClose 8\n36 NtRequestPort 4 d:64\n36 NtReplyWaitReceivePort 4\n") ≡ codes "2 - dir 00000000\n3 - boot 00000000\n4 - thread 00000000\n5 24 NtCreatePort 00000000 h=4\n7 24 NtCreatePort 00000000 h=8\n8 28 NtListenPort wait\n9 24 NtClose 00000000\n9 *28 NtListenPort c0000037\n11 - boot 00000000\n12 - thread 00000000\n13 - thread 00000000\n14 36 NtConnectPort wait id=1\n15 24 NtListenPort 00000000 msg=000018000a00000020000000240000000100000000000000\n16 24 NtAcceptConnectPort 00000000 h=8\n17 24 NtCompleteConnectPort 00000000\n17 *36 NtConnectPort 00000000 h=4 max=256 info=\n18 44 NtReplyWaitReceivePort wait\n19 36 NtRequestWaitReplyPort wait id=2\n20 28 NtReplyWaitReceivePort 00000000 ctx=00000007 msg=01001900010000002000000024000000020000000000000061\n21 40 NtRequestWaitReplyPort wait id=1\n23 - boot 00000000\n24 52 NtConnectPort wait id=1\n25 24 NtListenPort 00000000 msg=000018000a00000030000000340000000100000000000000\n26 24 NtAcceptConnectPort 00000000 h=12\n27 - boot 00000000\n28 60 NtConnectPort wait id=1\n29 24 NtListenPort 00000000 msg=000018000a000000380000003c0000000100000000000000\n30 - boot 00000000\n31 68 NtConnectPort wait id=1\n33 28 NtRequestWaitReplyPort wait id=1\n35 24 NtClose 00000000\n35 *28 NtRequestWaitReplyPort c0000037\n35 *40 NtRequestWaitReplyPort c0000253\n35 *60 NtConnectPort c0000041 info=\n35 *68 NtConnectPort c0000041 info=\n37 68 NtConnectPort c0000034\n39 24 NtClose 00000000\n39 *52 NtConnectPort c0000041 info=\n41 24 NtClose 00000000\n41 *36 NtRequestWaitReplyPort c0000253\n41 *44 NtReplyWaitReceivePort c0000037\n42 36 NtRequestPort c0000037\n43 36 NtReplyWaitReceivePort c0000037\nend 43 43 15\n"
  -- A client closes, and its server receives what tells so.
  pub closing_client : transcript (codes "# A client closes its port: what waits on the connection ends, and the server is told by a message of type 5.\nboot 20 24\nthread 28 20\nboot 32 36\nthread 40 32\n24 NtCreatePort \\P\n36 NtConnectPort \\P - - -\n24 NtListenPort 4\n24 NtAcceptConnectPort 7 r:32.36.1: accept -\n24 NtCompleteConnectPort 8\n# A second handle to the client port: the port stays while one of the two is left.\n36 NtDuplicateObject 4 same\n36 NtDuplicateObject 8 2\n36 NtQueryObject 8\n36 NtRequestPort 4 d:61\n36 NtClose 4\n# The client asks, and so does the server; neither is received. 40's request stands behind the datagram.\n40 NtRequestWaitReplyPort 8 d:62\n28 NtRequestWaitReplyPort 8 d:63\n# The last handle: what was sent on the port, then what stands in its queue.\n36 NtClose 8\n# The closed port still counts for the connection port: two messages were sent on it.\n24 NtQueryObject 4\n24 NtReplyWaitReceivePort 4\n24 NtReplyWaitReceivePort 4\n24 NtQueryObject 4\n# The server port has no other end; the server closes it too.\n24 NtRequestPort 8 d:64\n24 NtClose 8\n24 NtClose 8\n24 NtQueryObject 4\n# A client that closed can connect anew.\n36 NtConnectPort \\P - - -\n24 NtListenPort 4\n24 NtAcceptConnectPort 9 r:32.36.3: accept -\n24 NtCompleteConnectPort 8\n") ≡ codes "2 - boot 00000000\n3 - thread 00000000\n4 - boot 00000000\n5 - thread 00000000\n6 24 NtCreatePort 00000000 h=4\n7 36 NtConnectPort wait id=1\n8 24 NtListenPort 00000000 msg=000018000a00000020000000240000000100000000000000\n9 24 NtAcceptConnectPort 00000000 h=8\n10 24 NtCompleteConnectPort 00000000\n10 *36 NtConnectPort 00000000 h=4 max=256 info=\n12 36 NtDuplicateObject 00000000 h=8\n13 36 NtDuplicateObject c0000022\n14 36 NtQueryObject 00000000 type=port access=001f0001 handles=2 pointers=3\n15 36 NtRequestPort 00000000 id=2\n16 36 NtClose 00000000\n18 40 NtRequestWaitReplyPort wait id=1\n19 28 NtRequestWaitReplyPort wait id=1\n21 36 NtClose 00000000\n21 *40 NtRequestWaitReplyPort c0000037\n21 *28 NtRequestWaitReplyPort c0000253\n23 24 NtQueryObject 00000000 type=port access=001f0001 handles=1 pointers=3\n24 24 NtReplyWaitReceivePort 00000000 ctx=00000007 msg=01001900030000002000000024000000020000000000000061\n25 24 NtReplyWaitReceivePort 00000000 ctx=00000007 msg=0800200005000000200000002400000001000000000000002400000001000000\n26 24 NtQueryObject 00000000 type=port access=001f0001 handles=1 pointers=2\n28 24 NtRequestPort c0000037\n29 24 NtClose 00000000\n30 24 NtClose c0000008\n31 24 NtQueryObject 00000000 type=port access=001f0001 handles=1 pointers=1\n33 36 NtConnectPort wait id=3\n34 24 NtListenPort 00000000 msg=000018000a00000020000000240000000300000000000000\n35 24 NtAcceptConnectPort 00000000 h=8\n36 24 NtCompleteConnectPort 00000000\n36 *36 NtConnectPort 00000000 h=4 max=256 info=\nend 36 33 9\n"
  -- A connect that is refused, and one that is accepted and whose server port closes.
  pub accepted_connect_ends : transcript (codes "dir \\Windows\nboot 20 24\nboot 32 36\n24 NtCreatePort \\Windows\\ApiPort\n36 NtConnectPort \\Windows\\ApiPort - - d:4869\n24 NtListenPort 4\n24 NtAcceptConnectPort 0 r:32.36.1:4e6f refuse -\n36 NtConnectPort \\Windows\\ApiPort - - -\n24 NtListenPort 4\n24 NtAcceptConnectPort 0 r:32.36.2: accept -\n24 NtClose 8\n36 NtConnectPort \\Windows\\None - - -\n") ≡ codes "1 - dir 00000000\n2 - boot 00000000\n3 - boot 00000000\n4 24 NtCreatePort 00000000 h=4\n5 36 NtConnectPort wait id=1\n6 24 NtListenPort 00000000 msg=02001a000a000000200000002400000001000000000000004869\n7 24 NtAcceptConnectPort 00000000\n7 *36 NtConnectPort c0000041 info=4e6f\n8 36 NtConnectPort wait id=2\n9 24 NtListenPort 00000000 msg=000018000a00000020000000240000000200000000000000\n10 24 NtAcceptConnectPort 00000000 h=8\n11 24 NtClose 00000000\n11 *36 NtConnectPort c0000041 info=\n12 36 NtConnectPort c0000034\nend 12 14 5\n"
  -- Only the last of two handles to a port closes it; then its name is free and its clients are cut off.
  pub last_of_two_handles : transcript (codes "dir \\Windows\nboot 20 24\nboot 32 36\n24 NtCreatePort \\Windows\\ApiPort\n36 NtConnectPort \\Windows\\ApiPort - - -\n24 NtListenPort 4\n24 NtAcceptConnectPort 7 r:32.36.1: accept -\n24 NtCompleteConnectPort 8\n24 NtDuplicateObject 4 same\n36 NtRequestWaitReplyPort 4 d:61\n24 NtClose 4\n24 NtQueryObject 12\n24 NtClose 12\n36 NtRequestPort 4 d:61\n36 NtConnectPort \\Windows\\ApiPort - - -\n") ≡ codes "1 - dir 00000000\n2 - boot 00000000\n3 - boot 00000000\n4 24 NtCreatePort 00000000 h=4\n5 36 NtConnectPort wait id=1\n6 24 NtListenPort 00000000 msg=000018000a00000020000000240000000100000000000000\n7 24 NtAcceptConnectPort 00000000 h=8\n8 24 NtCompleteConnectPort 00000000\n8 *36 NtConnectPort 00000000 h=4 max=256 info=\n9 24 NtDuplicateObject 00000000 h=12\n10 36 NtRequestWaitReplyPort wait id=2\n11 24 NtClose 00000000\n12 24 NtQueryObject 00000000 type=port access=001f0001 handles=1 pointers=3\n13 24 NtClose 00000000\n13 *36 NtRequestWaitReplyPort c0000253\n14 36 NtRequestPort c0000037\n15 36 NtConnectPort c0000034\nend 15 17 7\n"
  -- A server port closes while a thread of its client waits in a receive; that thread is busy, so the client can't
  -- close.
  pub receive_across_a_server_port : transcript (codes "dir \\Windows\nboot 20 24\nboot 32 36\n24 NtCreatePort \\Windows\\ApiPort\n36 NtConnectPort \\Windows\\ApiPort - - -\n24 NtListenPort 4\n24 NtAcceptConnectPort 7 r:32.36.1: accept -\n24 NtCompleteConnectPort 8\nthread 28 20\n24 NtReplyWaitReceivePort 4\n28 NtReplyWaitReceivePort 8\n36 NtRequestPort 4 d:61\n36 NtRequestPort 4 d:\n24 NtRequestPort 8 d:62\n36 NtReplyWaitReceivePort 4\n36 NtReplyWaitReceivePort 4\n36 NtClose 4\n24 NtClose 8\n") ≡ codes "1 - dir 00000000\n2 - boot 00000000\n3 - boot 00000000\n4 24 NtCreatePort 00000000 h=4\n5 36 NtConnectPort wait id=1\n6 24 NtListenPort 00000000 msg=000018000a00000020000000240000000100000000000000\n7 24 NtAcceptConnectPort 00000000 h=8\n8 24 NtCompleteConnectPort 00000000\n8 *36 NtConnectPort 00000000 h=4 max=256 info=\n9 - thread 00000000\n10 24 NtReplyWaitReceivePort wait\n11 28 NtReplyWaitReceivePort wait\n12 36 NtRequestPort 00000000 id=2\n12 *24 NtReplyWaitReceivePort 00000000 ctx=00000007 msg=01001900030000002000000024000000020000000000000061\n13 36 NtRequestPort 00000000 id=3\n13 *28 NtReplyWaitReceivePort 00000000 ctx=00000007 msg=000018000300000020000000240000000300000000000000\n14 24 NtRequestPort 00000000 id=1\n15 36 NtReplyWaitReceivePort 00000000 ctx=00000000 msg=01001900030000001400000018000000010000000000000062\n16 36 NtReplyWaitReceivePort wait\n17 36 busy\n18 24 NtClose 00000000\n18 *36 NtReplyWaitReceivePort c0000037\nend 18 22 7\n"
  -- A server closes one of two connections, in which a request waits.
  pub one_of_two_connections : transcript (codes "dir \\Windows\nboot 20 24\nboot 32 36\n24 NtCreatePort \\Windows\\ApiPort\n36 NtConnectPort \\Windows\\ApiPort - - -\n24 NtListenPort 4\n24 NtAcceptConnectPort 7 r:32.36.1: accept -\n24 NtCompleteConnectPort 8\nboot 40 44\n44 NtConnectPort \\Windows\\ApiPort - - -\n24 NtListenPort 4\n24 NtAcceptConnectPort 9 r:40.44.1: accept -\n24 NtCompleteConnectPort 12\n36 NtRequestWaitReplyPort 4 d:61\n24 NtClose 8\n") ≡ codes "1 - dir 00000000\n2 - boot 00000000\n3 - boot 00000000\n4 24 NtCreatePort 00000000 h=4\n5 36 NtConnectPort wait id=1\n6 24 NtListenPort 00000000 msg=000018000a00000020000000240000000100000000000000\n7 24 NtAcceptConnectPort 00000000 h=8\n8 24 NtCompleteConnectPort 00000000\n8 *36 NtConnectPort 00000000 h=4 max=256 info=\n9 - boot 00000000\n10 44 NtConnectPort wait id=1\n11 24 NtListenPort 00000000 msg=000018000a000000280000002c0000000100000000000000\n12 24 NtAcceptConnectPort 00000000 h=12\n13 24 NtCompleteConnectPort 00000000\n13 *44 NtConnectPort 00000000 h=4 max=256 info=\n14 36 NtRequestWaitReplyPort wait id=2\n15 24 NtClose 00000000\n15 *36 NtRequestWaitReplyPort c0000253\nend 15 18 10\n"
  -- A closed client port stands until what tells of its closing is received; then its connection port can go.
  pub closed_port_is_held : transcript (codes "dir \\Windows\nboot 20 24\nboot 32 36\n24 NtCreatePort \\Windows\\ApiPort\n36 NtConnectPort \\Windows\\ApiPort - - -\n24 NtListenPort 4\n24 NtAcceptConnectPort 7 r:32.36.1: accept -\n24 NtCompleteConnectPort 8\n36 NtClose 4\n24 NtQueryObject 4\n24 NtReplyWaitReceivePort 4\n24 NtQueryObject 4\n24 NtQueryObject 8\n24 NtClose 4\n24 NtClose 8\n") ≡ codes "1 - dir 00000000\n2 - boot 00000000\n3 - boot 00000000\n4 24 NtCreatePort 00000000 h=4\n5 36 NtConnectPort wait id=1\n6 24 NtListenPort 00000000 msg=000018000a00000020000000240000000100000000000000\n7 24 NtAcceptConnectPort 00000000 h=8\n8 24 NtCompleteConnectPort 00000000\n8 *36 NtConnectPort 00000000 h=4 max=256 info=\n9 36 NtClose 00000000\n10 24 NtQueryObject 00000000 type=port access=001f0001 handles=1 pointers=3\n11 24 NtReplyWaitReceivePort 00000000 ctx=00000007 msg=0800200005000000200000002400000001000000000000002400000001000000\n12 24 NtQueryObject 00000000 type=port access=001f0001 handles=1 pointers=2\n13 24 NtQueryObject 00000000 type=port access=001f0001 handles=1 pointers=1\n14 24 NtClose 00000000\n15 24 NtClose 00000000\nend 15 16 4\n"
