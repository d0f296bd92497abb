-- Worked scripts of processes and threads that calls make, with their transcripts. They were written by hand beside the
-- rules, and follow from the definitions by computing alone.
use Rattle.std.specs.Prelude.{◌≡◌, codes}
use Rattle.lpc_model.specs.Transcript.{transcript}

pub record WorkedCreations : Type 0 where
  -- A process and its threads are made, and ended one after the other by their handles, which keep their rows.
  pub made_and_ended : transcript (codes "boot 20 24\n24 NtCreateProcess 32 36\n24 NtCreateThread 4 36\n24 NtCreateThread 4 40\n24 NtTerminateThread 8 7\n24 NtTerminateThread 8 7\n24 NtQueryObject 4\n24 NtTerminateProcess 4 9\n24 NtTerminateProcess 4 9\n") ≡ codes "1 - boot 00000000\n2 24 NtCreateProcess 00000000 h=4 thread=8\n3 24 NtCreateThread c0000035\n4 24 NtCreateThread 00000000 h=12\n5 24 NtTerminateThread 00000000\n5 ~36 died 00000007\n6 24 NtTerminateThread c000000b\n7 24 NtQueryObject 00000000 type=process access=00000001 handles=1 pointers=2\n8 24 NtTerminateProcess 00000000\n8 ~40 died 00000009\n9 24 NtTerminateProcess c000000b\nend 9 11 5\n"
  -- A process makes threads and children, serves and ends them, and ends before the child of one of them.
  pub a_process_that_makes_children : transcript (codes "# A process makes threads of its own and children, serves and ends them, and ends before the child of one of them.\nboot 20 24\n24 NtCreatePort \\Helpers\n# A thread of its own, which waits for what the children send.\n24 NtCreateThread self 28\n28 NtReplyWaitReceivePort 4\n# Two children. A number is used once, whoever used it.\n24 NtCreateProcess 32 36\n24 NtCreateProcess 32 44\n24 NtCreateProcess 40 36\n24 NtCreateProcess 40 44\n# A second thread of the first child; a handle to a thread, and a process's number, lead to no process.\n24 NtCreateThread 12 48\n24 NtCreateThread 16 52\n24 NtCreateThread 32 52\n24 NtQueryObject 12\n24 NtQueryObject 28\n# The first child connects, its second thread registers the port, and its request was received.\n36 NtConnectPort \\Helpers - - d:31\n28 NtAcceptConnectPort 7 r:32.36.1: accept -\n28 NtCompleteConnectPort 32\n48 NtRegisterThreadTerminatePort 4\n36 NtRequestWaitReplyPort 4 d:61\n28 NtReplyWaitReceivePort 4\n28 NtReplyWaitReceivePort 4\n# Thread 48 is ended from outside, and 28 is told: it was the seventh thing that 24 made. It is ended once.\n24 NtTerminateThread 28 7\n24 NtTerminateThread 28 7\n24 NtQueryObject 28\n24 NtQueryObject 12\n24 NtClose 28\n# A handle that grants nothing: no call ends or makes anything through it. It can be asked for and closed.\n24 NtDuplicateObject 12 2\n24 NtDuplicateObject 12 0\n24 NtTerminateProcess 28 1\n24 NtCreateThread 28 52\n24 NtQueryObject 28\n24 NtClose 28\n# The child is ended while it waits for its reply: that finds no client any more, and the port's end is told.\n24 NtTerminateProcess 12 5\n28 NtReplyWaitReceivePort 4 r:32.36.2:62\n28 NtReplyWaitReceivePort 4\n24 NtTerminateProcess 12 5\n24 NtCreateThread 12 52\n24 NtCreateProcess 32 52\n24 NtQueryObject 12\n28 NtClose 32\n24 NtClose 12\n24 NtClose 16\n# The second child makes a child itself and ends. No handle leads to that one any more.\n44 NtCreateProcess 56 60\n44 NtTerminateProcess self 0\n24 NtTerminateThread 24 1\n60 NtConnectPort \\Helpers - - -\n24 NtListenPort 4\n# Thread 28 ends itself by its handle, and 24 its process: the child's child isn't served, and lives on.\n28 NtTerminateThread 8 2\n24 NtQueryObject 8\n24 NtTerminateProcess self 3\n60 NtCreateThread self 64\n60 NtTerminateProcess self 4\n") ≡ codes "2 - boot 00000000\n3 24 NtCreatePort 00000000 h=4\n5 24 NtCreateThread 00000000 h=8\n6 28 NtReplyWaitReceivePort wait\n8 24 NtCreateProcess 00000000 h=12 thread=16\n9 24 NtCreateProcess c0000035\n10 24 NtCreateProcess c0000035\n11 24 NtCreateProcess 00000000 h=20 thread=24\n13 24 NtCreateThread 00000000 h=28\n14 24 NtCreateThread c0000024\n15 24 NtCreateThread c0000008\n16 24 NtQueryObject 00000000 type=process access=00000001 handles=1 pointers=3\n17 24 NtQueryObject 00000000 type=thread access=00000001 handles=1 pointers=2\n19 36 NtConnectPort wait id=1\n19 *28 NtReplyWaitReceivePort 00000000 ctx=00000000 msg=010019000a0000002000000024000000010000000000000031\n20 28 NtAcceptConnectPort 00000000 h=32\n21 28 NtCompleteConnectPort 00000000\n21 *36 NtConnectPort 00000000 h=4 max=256 info=\n22 48 NtRegisterThreadTerminatePort 00000000\n23 36 NtRequestWaitReplyPort wait id=2\n24 28 NtReplyWaitReceivePort 00000000 ctx=00000007 msg=01001900010000002000000024000000020000000000000061\n25 28 NtReplyWaitReceivePort wait\n27 24 NtTerminateThread 00000000\n27 ~48 died 00000007\n27 *28 NtReplyWaitReceivePort 00000000 ctx=00000007 msg=0800200006000000200000003000000000000000000000001800000007000000\n28 24 NtTerminateThread c000000b\n29 24 NtQueryObject 00000000 type=thread access=00000001 handles=1 pointers=1\n30 24 NtQueryObject 00000000 type=process access=00000001 handles=1 pointers=2\n31 24 NtClose 00000000\n33 24 NtDuplicateObject c0000022\n34 24 NtDuplicateObject 00000000 h=28\n35 24 NtTerminateProcess c0000022\n36 24 NtCreateThread c0000022\n37 24 NtQueryObject 00000000 type=process access=00000000 handles=2 pointers=3\n38 24 NtClose 00000000\n40 24 NtTerminateProcess 00000000\n40 ~36 died 00000005\n41 28 NtReplyWaitReceivePort c000000b\n42 28 NtReplyWaitReceivePort 00000000 ctx=00000007 msg=0800200005000000200000002400000001000000000000002400000001000000\n43 24 NtTerminateProcess c000000b\n44 24 NtCreateThread c000000b\n45 24 NtCreateProcess c0000035\n46 24 NtQueryObject 00000000 type=process access=00000001 handles=1 pointers=1\n47 28 NtClose 00000000\n48 24 NtClose 00000000\n49 24 NtClose 00000000\n51 44 NtCreateProcess 00000000 h=4 thread=8\n52 ~44 died 00000000\n53 24 NtTerminateThread c000000b\n54 60 NtConnectPort wait id=1\n55 24 NtListenPort 00000000 msg=000018000a000000380000003c0000000100000000000000\n57 ~28 died 00000002\n58 24 NtQueryObject 00000000 type=thread access=00000001 handles=1 pointers=1\n59 ~24 died 00000003\n59 *60 NtConnectPort c0000041 info=\n60 60 NtCreateThread 00000000 h=4\n61 ~60 died 00000004\n61 ~64 died 00000004\nend 61 58 0\n"
  -- A number that a process has may be a thread's; none is used twice, also when its thread has ended.
  pub numbers_are_used_once : transcript (codes "boot 20 24\n24 NtCreateProcess 24 20\n20 NtCreateProcess 32 32\n32 NtCreatePort -\n32 NtCreateThread self 24\n32 NtCreateProcess 24 36\n20 NtTerminateProcess self 2\n24 NtTerminateThread 8 1\n32 NtTerminateProcess self 3\n") ≡ codes "1 - boot 00000000\n2 24 NtCreateProcess 00000000 h=4 thread=8\n3 20 NtCreateProcess 00000000 h=4 thread=8\n4 32 NtCreatePort 00000000 h=4\n5 32 NtCreateThread c0000035\n6 32 NtCreateProcess c0000035\n7 ~20 died 00000002\n8 24 NtTerminateThread c000000b\n9 ~32 died 00000003\nend 9 9 4\n"
  -- Of what the maker makes a process is the first, its thread the second, and the port behind them the third.
  pub the_process_is_made_first : transcript (codes "boot 40 44\n44 NtCreatePort \\P\nboot 20 24\n24 NtCreateProcess 32 36\n36 NtConnectPort \\P - - -\n44 NtListenPort 4\n44 NtAcceptConnectPort 7 r:32.36.1: accept -\n44 NtCompleteConnectPort 8\n36 NtRegisterThreadTerminatePort 4\n24 NtConnectPort \\P - - -\n44 NtListenPort 4\n44 NtAcceptConnectPort 9 r:20.24.1: accept -\n44 NtCompleteConnectPort 12\n24 NtTerminateThread 8 1\n44 NtReplyWaitReceivePort 4\n44 NtReplyWaitReceivePort 4\n24 NtClose 12\n44 NtReplyWaitReceivePort 4\n") ≡ codes "1 - boot 00000000\n2 44 NtCreatePort 00000000 h=4\n3 - boot 00000000\n4 24 NtCreateProcess 00000000 h=4 thread=8\n5 36 NtConnectPort wait id=1\n6 44 NtListenPort 00000000 msg=000018000a00000020000000240000000100000000000000\n7 44 NtAcceptConnectPort 00000000 h=8\n8 44 NtCompleteConnectPort 00000000\n8 *36 NtConnectPort 00000000 h=4 max=256 info=\n9 36 NtRegisterThreadTerminatePort 00000000\n10 24 NtConnectPort wait id=1\n11 44 NtListenPort 00000000 msg=000018000a00000014000000180000000100000000000000\n12 44 NtAcceptConnectPort 00000000 h=12\n13 44 NtCompleteConnectPort 00000000\n13 *24 NtConnectPort 00000000 h=12 max=256 info=\n14 24 NtTerminateThread 00000000\n14 ~36 died 00000001\n15 44 NtReplyWaitReceivePort 00000000 ctx=00000007 msg=0800200006000000200000002400000000000000000000001800000002000000\n16 44 NtReplyWaitReceivePort 00000000 ctx=00000007 msg=0800200005000000200000002400000001000000000000002400000001000000\n17 24 NtClose 00000000\n18 44 NtReplyWaitReceivePort 00000000 ctx=00000009 msg=0800200005000000140000001800000001000000000000001800000003000000\nend 18 21 9\n"
  -- The end of a thread that a call made tells who made it, and as what.
  pub births_of_threads : transcript (codes "boot 20 24\n24 NtCreatePort \\P\n24 NtCreateProcess 32 36\n24 NtCreateThread 8 40\n24 NtCreateThread self 28\n28 NtCreateThread self 30\n28 NtRegisterThreadTerminatePort 4\n30 NtRegisterThreadTerminatePort 4\n40 NtConnectPort \\P - - -\n24 NtListenPort 4\n24 NtAcceptConnectPort 7 r:32.40.1: accept -\n24 NtCompleteConnectPort 28\n40 NtRegisterThreadTerminatePort 4\n40 NtTerminateThread self 1\n28 NtTerminateThread self 2\n24 NtTerminateThread 24 3\n24 NtReplyWaitReceivePort 4\n24 NtReplyWaitReceivePort 4\n24 NtReplyWaitReceivePort 4\n") ≡ codes "1 - boot 00000000\n2 24 NtCreatePort 00000000 h=4\n3 24 NtCreateProcess 00000000 h=8 thread=12\n4 24 NtCreateThread 00000000 h=16\n5 24 NtCreateThread 00000000 h=20\n6 28 NtCreateThread 00000000 h=24\n7 28 NtRegisterThreadTerminatePort 00000000\n8 30 NtRegisterThreadTerminatePort 00000000\n9 40 NtConnectPort wait id=1\n10 24 NtListenPort 00000000 msg=000018000a00000020000000280000000100000000000000\n11 24 NtAcceptConnectPort 00000000 h=28\n12 24 NtCompleteConnectPort 00000000\n12 *40 NtConnectPort 00000000 h=4 max=256 info=\n13 40 NtRegisterThreadTerminatePort 00000000\n14 ~40 died 00000001\n15 ~28 died 00000002\n16 24 NtTerminateThread 00000000\n16 ~30 died 00000003\n17 24 NtReplyWaitReceivePort 00000000 ctx=00000007 msg=0800200006000000200000002800000000000000000000001800000004000000\n18 24 NtReplyWaitReceivePort 00000000 ctx=00000000 msg=0800200006000000140000001c00000000000000000000001800000005000000\n19 24 NtReplyWaitReceivePort 00000000 ctx=00000000 msg=0800200006000000140000001e00000000000000000000001c00000001000000\nend 19 21 10\n"
  -- The handle is tested before an ended process, and that before a used number.
  pub the_handle_comes_first : transcript (codes "boot 20 24\n24 NtCreateProcess 32 36\n24 NtDuplicateObject 4 0\n24 NtCreateThread 16 24\n24 NtCreateThread 8 24\n24 NtCreateThread 12 24\n24 NtCreateThread 4 24\n24 NtTerminateProcess 4 1\n24 NtCreateThread 16 24\n24 NtCreateThread 8 24\n24 NtCreateThread 12 24\n24 NtCreateThread 12 40\n") ≡ codes "1 - boot 00000000\n2 24 NtCreateProcess 00000000 h=4 thread=8\n3 24 NtDuplicateObject 00000000 h=12\n4 24 NtCreateThread c0000008\n5 24 NtCreateThread c0000024\n6 24 NtCreateThread c0000022\n7 24 NtCreateThread c0000035\n8 24 NtTerminateProcess 00000000\n8 ~36 died 00000001\n9 24 NtCreateThread c0000008\n10 24 NtCreateThread c0000024\n11 24 NtCreateThread c0000022\n12 24 NtCreateThread c0000022\nend 12 13 4\n"
  -- Threads of directives and of calls end in one order, that of their making.
  pub the_order_of_making : transcript (codes "boot 20 90\n90 NtCreateProcess 30 80\nthread 70 30\n90 NtCreateThread 4 75\n80 NtCreateThread self 10\nthread 60 30\n90 NtCreateThread self 5\n90 NtTerminateProcess 4 7\n5 NtTerminateProcess self 8\n") ≡ codes "1 - boot 00000000\n2 90 NtCreateProcess 00000000 h=4 thread=8\n3 - thread 00000000\n4 90 NtCreateThread 00000000 h=12\n5 80 NtCreateThread 00000000 h=4\n6 - thread 00000000\n7 90 NtCreateThread 00000000 h=16\n8 90 NtTerminateProcess 00000000\n8 ~80 died 00000007\n8 ~70 died 00000007\n8 ~75 died 00000007\n8 ~10 died 00000007\n8 ~60 died 00000007\n9 ~90 died 00000008\n9 ~5 died 00000008\nend 9 15 0\n"
  -- A call that ends its own thread by a handle has no answer.
  pub a_thread_ends_itself_by_its_handle : transcript (codes "boot 20 24\n24 NtCreateThread self 28\n28 NtTerminateThread 4 5\n28 NtTerminateThread 4 5\n24 NtTerminateThread 4 6\n24 NtQueryObject 4\n") ≡ codes "1 - boot 00000000\n2 24 NtCreateThread 00000000 h=4\n3 ~28 died 00000005\n4 28 nothread\n5 24 NtTerminateThread c000000b\n6 24 NtQueryObject 00000000 type=thread access=00000001 handles=1 pointers=1\nend 6 6 3\n"
  -- Threads that wait in a queued, a received and an accepted connect are ended from outside.
  pub connects_end_from_outside : transcript (codes "boot 20 24\n24 NtCreatePort \\P\n24 NtCreateProcess 32 36\n24 NtCreateThread 8 40\n24 NtCreateThread 8 44\n36 NtConnectPort \\P - - -\n40 NtConnectPort \\P - - -\n44 NtConnectPort \\P - - -\n24 NtListenPort 4\n24 NtListenPort 4\n24 NtAcceptConnectPort 7 r:32.36.1: accept -\n24 NtQueryObject 4\n24 NtTerminateThread 12 1\n24 NtCompleteConnectPort 24\n24 NtTerminateThread 16 2\n24 NtAcceptConnectPort 7 r:32.40.1: accept -\n24 NtTerminateThread 20 3\n24 NtListenPort 4\n") ≡ codes "1 - boot 00000000\n2 24 NtCreatePort 00000000 h=4\n3 24 NtCreateProcess 00000000 h=8 thread=12\n4 24 NtCreateThread 00000000 h=16\n5 24 NtCreateThread 00000000 h=20\n6 36 NtConnectPort wait id=1\n7 40 NtConnectPort wait id=1\n8 44 NtConnectPort wait id=1\n9 24 NtListenPort 00000000 msg=000018000a00000020000000240000000100000000000000\n10 24 NtListenPort 00000000 msg=000018000a00000020000000280000000100000000000000\n11 24 NtAcceptConnectPort 00000000 h=24\n12 24 NtQueryObject 00000000 type=port access=001f0001 handles=1 pointers=5\n13 24 NtTerminateThread 00000000\n13 ~36 died 00000001\n14 24 NtCompleteConnectPort c0000037\n15 24 NtTerminateThread 00000000\n15 ~40 died 00000002\n16 24 NtAcceptConnectPort c000000b\n17 24 NtTerminateThread 00000000\n17 ~44 died 00000003\n18 24 NtListenPort wait\nend 18 21 8\n"
  -- A server ends its client: a datagram, the thread's end and the port's end are queued in this order.
  pub a_server_ends_its_client : transcript (codes "boot 20 24\n24 NtCreatePort \\P\n24 NtCreateProcess 32 36\n36 NtConnectPort \\P - - -\n24 NtListenPort 4\n24 NtAcceptConnectPort 7 r:32.36.1: accept -\n24 NtCompleteConnectPort 16\n36 NtRegisterThreadTerminatePort 4\n36 NtRequestPort 4 d:61\n24 NtTerminateProcess 8 5\n24 NtReplyWaitReceivePort 16\n24 NtReplyWaitReceivePort 16\n24 NtReplyWaitReceivePort 16\n24 NtReplyWaitReceivePort 16\n") ≡ codes "1 - boot 00000000\n2 24 NtCreatePort 00000000 h=4\n3 24 NtCreateProcess 00000000 h=8 thread=12\n4 36 NtConnectPort wait id=1\n5 24 NtListenPort 00000000 msg=000018000a00000020000000240000000100000000000000\n6 24 NtAcceptConnectPort 00000000 h=16\n7 24 NtCompleteConnectPort 00000000\n7 *36 NtConnectPort 00000000 h=4 max=256 info=\n8 36 NtRegisterThreadTerminatePort 00000000\n9 36 NtRequestPort 00000000 id=2\n10 24 NtTerminateProcess 00000000\n10 ~36 died 00000005\n11 24 NtReplyWaitReceivePort 00000000 ctx=00000007 msg=01001900030000002000000024000000020000000000000061\n12 24 NtReplyWaitReceivePort 00000000 ctx=00000007 msg=0800200006000000200000002400000000000000000000001800000003000000\n13 24 NtReplyWaitReceivePort 00000000 ctx=00000007 msg=0800200005000000200000002400000001000000000000002400000001000000\n14 24 NtReplyWaitReceivePort wait\nend 14 16 6\n"
  -- The handles to a process and its live threads count for it.
  pub counts_of_a_process : transcript (codes "boot 20 24\n24 NtCreateProcess 32 36\n24 NtQueryObject 4\n24 NtCreateThread 4 40\n24 NtQueryObject 4\nthread 44 32\n36 NtCreateThread self 48\n24 NtQueryObject 4\n36 NtCreatePort -\n36 NtCreateProcess 52 56\n24 NtQueryObject 4\n44 NtTerminateThread self 1\n24 NtTerminateThread 8 2\n24 NtQueryObject 4\n24 NtTerminateProcess 4 3\n24 NtQueryObject 4\n") ≡ codes "1 - boot 00000000\n2 24 NtCreateProcess 00000000 h=4 thread=8\n3 24 NtQueryObject 00000000 type=process access=00000001 handles=1 pointers=2\n4 24 NtCreateThread 00000000 h=12\n5 24 NtQueryObject 00000000 type=process access=00000001 handles=1 pointers=3\n6 - thread 00000000\n7 36 NtCreateThread 00000000 h=4\n8 24 NtQueryObject 00000000 type=process access=00000001 handles=1 pointers=5\n9 36 NtCreatePort 00000000 h=8\n10 36 NtCreateProcess 00000000 h=12 thread=16\n11 24 NtQueryObject 00000000 type=process access=00000001 handles=1 pointers=5\n12 ~44 died 00000001\n13 24 NtTerminateThread 00000000\n13 ~36 died 00000002\n14 24 NtQueryObject 00000000 type=process access=00000001 handles=1 pointers=3\n15 24 NtTerminateProcess 00000000\n15 ~40 died 00000003\n15 ~48 died 00000003\n16 24 NtQueryObject 00000000 type=process access=00000001 handles=1 pointers=1\nend 16 19 7\n"
  -- A process keeps the rows of its ended child by its handles; with the last one all go.
  pub three_generations : transcript (codes "boot 20 24\n24 NtCreateProcess 32 36\n36 NtCreateProcess 40 44\n44 NtTerminateProcess self 1\n36 NtQueryObject 4\n36 NtTerminateProcess self 2\n24 NtQueryObject 4\n24 NtQueryObject 8\n24 NtTerminateProcess self 3\n") ≡ codes "1 - boot 00000000\n2 24 NtCreateProcess 00000000 h=4 thread=8\n3 36 NtCreateProcess 00000000 h=4 thread=8\n4 ~44 died 00000001\n5 36 NtQueryObject 00000000 type=process access=00000001 handles=1 pointers=1\n6 ~36 died 00000002\n7 24 NtQueryObject 00000000 type=process access=00000001 handles=1 pointers=1\n8 24 NtQueryObject 00000000 type=thread access=00000001 handles=1 pointers=1\n9 ~24 died 00000003\nend 9 9 0\n"
