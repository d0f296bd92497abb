-- Worked scripts of exceptions with their transcripts. They were written by hand beside the rules, and follow from the
-- definitions by computing alone.
use Rattle.std.specs.Prelude.{◌≡◌, codes}
use Rattle.lpc_model.specs.Transcript.{transcript}

pub record WorkedExceptions : Type 0 where
  pub a_cascade : transcript (codes "boot 48 52\n52 NtCreatePort \\S\nboot 20 24\n24 NtCreatePort -\n24 NtCreateProcess 32 36\n24 NtSetInformationProcess 8 7 4\n36 NtConnectPort \\S - - -\n52 NtListenPort 4\n52 NtAcceptConnectPort 5 r:32.36.1: accept -\n52 NtCompleteConnectPort 8\n52 NtReplyWaitReceivePort 4\n36 raise 0xc0000005 unhandled\n24 NtReplyWaitReceivePort 4\n24 NtTerminateProcess self 0\n") ≡ codes "1 - boot 00000000\n2 52 NtCreatePort 00000000 h=4\n3 - boot 00000000\n4 24 NtCreatePort 00000000 h=4\n5 24 NtCreateProcess 00000000 h=8 thread=12\n6 24 NtSetInformationProcess 00000000\n7 36 NtConnectPort wait id=1\n8 52 NtListenPort 00000000 msg=000018000a00000020000000240000000100000000000000\n9 52 NtAcceptConnectPort 00000000 h=8\n10 52 NtCompleteConnectPort 00000000\n10 *36 NtConnectPort 00000000 h=4 max=256 info=\n11 52 NtReplyWaitReceivePort wait\n12 36 raise wait id=2\n13 24 NtReplyWaitReceivePort 00000000 ctx=00000000 msg=080020000800000020000000240000000200000000000000050000c001000000\n14 ~24 died 00000000\n14 ~36 died c0000005\n14 *52 NtReplyWaitReceivePort 00000000 ctx=00000005 msg=0800200005000000200000002400000001000000000000002400000001000000\nend 14 17 4\n"
  pub processes_and_the_exception_port : transcript (codes "boot 20 24\n24 NtCreateProcess 32 36\n24 NtCreateThread 4 36\n24 NtCreateThread 4 40\n24 NtTerminateThread 8 7\n36 NtOpenProcessToken\n24 NtTerminateThread 8 7\n24 NtCreatePort -\n24 NtSetInformationProcess 4 8 16\n24 NtSetInformationProcess 4 8 16\n40 raise 0xc0000005 unhandled\n24 NtReplyWaitReceivePort 16\n24 NtReplyPort 16 r:32.40.1:02000100\n24 NtQueryObject 4\n24 NtTerminateProcess 4 9\n24 NtQueryObject 4\n24 NtTerminateProcess 4 9\n24 NtOpenProcessToken\n24 NtQueryInformationToken 20 2\n24 NtOpenThreadToken\n") ≡ codes "1 - boot 00000000\n2 24 NtCreateProcess 00000000 h=4 thread=8\n3 24 NtCreateThread c0000035\n4 24 NtCreateThread 00000000 h=12\n5 24 NtTerminateThread 00000000\n5 ~36 died 00000007\n6 36 nothread\n7 24 NtTerminateThread c000000b\n8 24 NtCreatePort 00000000 h=16\n9 24 NtSetInformationProcess 00000000\n10 24 NtSetInformationProcess c0000048\n11 40 raise wait id=1\n12 24 NtReplyWaitReceivePort 00000000 ctx=00000000 msg=080020000700000020000000280000000100000000000000050000c002000000\n13 24 NtReplyPort 00000000\n13 *40 raise 00010002\n14 24 NtQueryObject 00000000 type=process access=00000001 handles=1 pointers=2\n15 24 NtTerminateProcess 00000000\n15 ~40 died 00000009\n16 24 NtQueryObject 00000000 type=process access=00000001 handles=1 pointers=1\n17 24 NtTerminateProcess c000000b\n18 24 NtOpenProcessToken 00000000 h=20\n19 24 NtQueryInformationToken 00000000 groups=S-1-5-32-544,S-1-1-0\n20 24 NtOpenThreadToken c000007c\nend 20 23 7\n"
  pub all_chances_pass : transcript (codes "boot 20 24\n24 NtCreatePort -\n24 NtCreateProcess 32 36\n24 NtCreatePort -\n24 NtSetInformationProcess 8 7 4\n24 NtSetInformationProcess 8 8 16\n24 NtSetInformationProcess 8 9 16\n24 NtSetInformationProcess 8 7 16\n36 raise 1 unhandled\n24 NtReplyWaitReceivePort 4\n24 NtReplyWaitReceivePort 4 r:32.36.1:01000180\n24 NtReplyPort 4 r:32.36.1:02000100\n24 NtReplyPort 4 r:32.36.2:\n24 NtReplyWaitReceivePort 16\n24 NtReplyPort 16 r:32.36.3:0200010000\n36 raise 2 handled\n24 NtReplyPort 4 r:32.36.4:02000100\n24 NtClose 4\n36 raise 3 handled\n36 raise 4 unhandled\n24 NtClose 16\n24 NtQueryObject 8\n") ≡ codes "1 - boot 00000000\n2 24 NtCreatePort 00000000 h=4\n3 24 NtCreateProcess 00000000 h=8 thread=12\n4 24 NtCreatePort 00000000 h=16\n5 24 NtSetInformationProcess 00000000\n6 24 NtSetInformationProcess 00000000\n7 24 NtSetInformationProcess c000000d\n8 24 NtSetInformationProcess c0000048\n9 36 raise wait id=1\n10 24 NtReplyWaitReceivePort 00000000 ctx=00000000 msg=0800200008000000200000002400000001000000000000000100000001000000\n11 24 NtReplyWaitReceivePort wait\n11 *24 NtReplyWaitReceivePort 00000000 ctx=00000000 msg=0800200008000000200000002400000002000000000000000100000002000000\n12 24 NtReplyPort c000021f\n13 24 NtReplyPort 00000000\n14 24 NtReplyWaitReceivePort 00000000 ctx=00000000 msg=0800200007000000200000002400000003000000000000000100000002000000\n15 24 NtReplyPort 00000000\n15 *36 raise 00010002\n16 36 raise wait id=4\n17 24 NtReplyPort c000021f\n18 24 NtClose 00000000\n18 *36 raise 00000000\n19 36 raise 00000000\n20 36 raise wait id=5\n21 24 NtClose 00000000\n21 ~36 died 00000004\n22 24 NtQueryObject 00000000 type=process access=00000001 handles=1 pointers=1\nend 22 26 4\n"
  pub two_doomed : transcript (codes "boot 20 24\n24 NtCreateProcess 40 44\n24 NtCreateProcess 32 36\n24 NtCreatePort -\n24 NtSetInformationProcess 4 7 20\n24 NtSetInformationProcess 12 7 20\n44 raise 5 unhandled\n36 raise 6 unhandled\n24 NtClose 20\n44 raise 7 unhandled\n") ≡ codes "1 - boot 00000000\n2 24 NtCreateProcess 00000000 h=4 thread=8\n3 24 NtCreateProcess 00000000 h=12 thread=16\n4 24 NtCreatePort 00000000 h=20\n5 24 NtSetInformationProcess 00000000\n6 24 NtSetInformationProcess 00000000\n7 44 raise wait id=1\n8 36 raise wait id=1\n9 24 NtClose 00000000\n9 ~36 died 00000006\n9 ~44 died 00000005\n10 44 nothread\nend 10 12 6\n"
  pub nothing_handles : transcript (codes "boot 20 24\nthread 28 20\n28 raise 9 handled\n24 raise 0xc0000094 unhandled\n28 raise 1 handled\n") ≡ codes "1 - boot 00000000\n2 - thread 00000000\n3 28 raise 00000000\n4 ~24 died c0000094\n4 ~28 died c0000094\n5 28 nothread\nend 5 6 0\n"
  pub an_event_describes_no_bytes : transcript (codes "boot 20 24\n24 NtCreatePort -\n24 NtCreateProcess 32 36\n24 NtSetInformationProcess 8 7 4\n36 raise 1 unhandled\n24 NtReplyWaitReceivePort 4\n24 NtReadRequestData 4 r:32.36.1: 0 4\n24 NtWriteRequestData 4 r:32.36.1: 0 61\n24 NtReadRequestData 4 r:32.36.2: 0 4\n24 NtReplyPort 4 r:32.36.1:02000100\n") ≡ codes "1 - boot 00000000\n2 24 NtCreatePort 00000000 h=4\n3 24 NtCreateProcess 00000000 h=8 thread=12\n4 24 NtSetInformationProcess 00000000\n5 36 raise wait id=1\n6 24 NtReplyWaitReceivePort 00000000 ctx=00000000 msg=0800200008000000200000002400000001000000000000000100000001000000\n7 24 NtReadRequestData c000021f\n8 24 NtWriteRequestData c000021f\n9 24 NtReadRequestData c000021f\n10 24 NtReplyPort 00000000\n10 *36 raise 00010002\nend 10 11 5\n"
  pub an_event_lets_no_server_act : transcript (codes "boot 20 24\nthread 28 20\n24 NtCreatePort \\S\n24 NtCreateProcess 32 36\n28 NtConnectPort \\S - - -\n24 NtListenPort 4\n24 NtAcceptConnectPort 7 r:20.28.1: accept -\n24 NtCompleteConnectPort 16\n24 NtSetInformationProcess 8 8 20\n36 raise 0xc0000005 unhandled\n24 NtReplyWaitReceivePort 4\n24 NtImpersonateClientOfPort 16 r:32.36.1:\n24 NtReplyPort 16 r:32.36.1:02000100\n") ≡ codes "1 - boot 00000000\n2 - thread 00000000\n3 24 NtCreatePort 00000000 h=4\n4 24 NtCreateProcess 00000000 h=8 thread=12\n5 28 NtConnectPort wait id=1\n6 24 NtListenPort 00000000 msg=000018000a000000140000001c0000000100000000000000\n7 24 NtAcceptConnectPort 00000000 h=16\n8 24 NtCompleteConnectPort 00000000\n8 *28 NtConnectPort 00000000 h=20 max=256 info=\n9 24 NtSetInformationProcess 00000000\n10 36 raise wait id=1\n11 24 NtReplyWaitReceivePort 00000000 ctx=00000007 msg=080020000700000020000000240000000100000000000000050000c002000000\n12 24 NtImpersonateClientOfPort c000021f\n13 24 NtReplyPort 00000000\n13 *36 raise 00010002\nend 13 15 8\n"
  -- A debugger hears of its child's exceptions: it continues one, leaves one to the frame handlers, and passes two on.
  pub a_debugger_and_its_child : transcript (codes "# A debugger hears of its child's exceptions: it continues one, leaves one to the frame handlers, and passes two on.\nboot 20 24\n24 NtCreatePort -\n24 NtCreateProcess 32 36\n24 NtSetInformationProcess 8 7 4\n24 NtSetInformationProcess 8 7 4\n24 NtCreatePort -\n24 NtSetInformationProcess 8 8 16\n36 raise 0x80000003 unhandled\n24 NtReplyPort 4 r:32.36.1:02000100\n24 NtQueryObject 4\n24 NtReplyWaitReceivePort 4\n24 NtReadRequestData 4 r:32.36.1: 0 4\n24 NtReplyPort 4 r:32.36.1:02000100\n24 NtQueryObject 4\n36 raise 0xc0000005 handled\n24 NtReplyWaitReceivePort 4\n24 NtReplyPort 4 r:32.36.2:01000180\n36 raise 0xc0000094 unhandled\n36 NtCreatePort -\n24 NtReplyWaitReceivePort 4\n24 NtReplyWaitReceivePort 4 r:32.36.3:01000180\n24 NtReplyPort 4 r:32.36.4:01000180\n24 NtReplyPort 4 r:32.36.4:02000100\n24 NtReplyWaitReceivePort 16\n24 NtReplyPort 16 r:32.36.5:02000100\n36 raise 0xc00000fd unhandled\n24 NtClose 4\n36 NtCreatePort -\n24 NtReplyWaitReceivePort 16\n24 NtReplyPort 16 r:32.36.7:01000180\n36 raise 0xc00000fd unhandled\n24 NtQueryObject 8\n24 NtSetInformationProcess 8 7 16\n") ≡ codes "2 - boot 00000000\n3 24 NtCreatePort 00000000 h=4\n4 24 NtCreateProcess 00000000 h=8 thread=12\n5 24 NtSetInformationProcess 00000000\n6 24 NtSetInformationProcess c0000048\n7 24 NtCreatePort 00000000 h=16\n8 24 NtSetInformationProcess 00000000\n9 36 raise wait id=1\n10 24 NtReplyPort c000021f\n11 24 NtQueryObject 00000000 type=port access=001f0001 handles=1 pointers=4\n12 24 NtReplyWaitReceivePort 00000000 ctx=00000000 msg=0800200008000000200000002400000001000000000000000300008001000000\n13 24 NtReadRequestData c000021f\n14 24 NtReplyPort 00000000\n14 *36 raise 00010002\n15 24 NtQueryObject 00000000 type=port access=001f0001 handles=1 pointers=2\n16 36 raise wait id=2\n17 24 NtReplyWaitReceivePort 00000000 ctx=00000000 msg=080020000800000020000000240000000200000000000000050000c001000000\n18 24 NtReplyPort 00000000\n18 *36 raise 00000000\n19 36 raise wait id=3\n20 36 busy\n21 24 NtReplyWaitReceivePort 00000000 ctx=00000000 msg=080020000800000020000000240000000300000000000000940000c001000000\n22 24 NtReplyWaitReceivePort wait\n22 *24 NtReplyWaitReceivePort 00000000 ctx=00000000 msg=080020000800000020000000240000000400000000000000940000c002000000\n23 24 NtReplyPort 00000000\n24 24 NtReplyPort c000021f\n25 24 NtReplyWaitReceivePort 00000000 ctx=00000000 msg=080020000700000020000000240000000500000000000000940000c002000000\n26 24 NtReplyPort 00000000\n26 *36 raise 00010002\n27 36 raise wait id=6\n28 24 NtClose 00000000\n29 36 busy\n30 24 NtReplyWaitReceivePort 00000000 ctx=00000000 msg=080020000700000020000000240000000700000000000000fd0000c002000000\n31 24 NtReplyPort 00000000\n31 ~36 died c00000fd\n32 36 nothread\n33 24 NtQueryObject 00000000 type=process access=00000001 handles=1 pointers=1\n34 24 NtSetInformationProcess c000000b\nend 34 38 5\n"
  -- A debugger ends with three exceptions waited for: one goes on to a server, one ends a process, one is handled.
  pub a_debugger_that_ends : transcript (codes "# A debugger ends with three exceptions waited for: one goes on to a server, one ends a process, one is handled.\nboot 48 52\n52 NtCreatePort \\S\nboot 20 24\n24 NtCreatePort -\n24 NtCreateProcess 60 64\n24 NtCreateProcess 40 44\n24 NtSetInformationProcess 8 7 4\n24 NtSetInformationProcess 16 7 4\n64 NtConnectPort \\S - - -\n52 NtListenPort 4\n52 NtAcceptConnectPort 5 r:60.64.1: accept -\n52 NtCompleteConnectPort 8\n64 NtSetInformationProcess self 8 4\n44 NtCreatePort -\n44 NtCreateProcess 56 58\n44 NtSetInformationProcess 8 7 4\n52 NtReplyWaitReceivePort 4\n64 raise 0xc0000005 unhandled\n44 raise 0xc0000094 unhandled\n58 raise 0xc0000005 handled\n24 NtReplyWaitReceivePort 4\n24 NtTerminateProcess self 0\n58 NtCreatePort -\n52 NtReplyWaitReceivePort 4 r:60.64.3:01000180\n58 raise 0xc0000005 handled\n58 raise 0xc0000005 unhandled\n52 NtClose 8\n") ≡ codes "2 - boot 00000000\n3 52 NtCreatePort 00000000 h=4\n4 - boot 00000000\n5 24 NtCreatePort 00000000 h=4\n6 24 NtCreateProcess 00000000 h=8 thread=12\n7 24 NtCreateProcess 00000000 h=16 thread=20\n8 24 NtSetInformationProcess 00000000\n9 24 NtSetInformationProcess 00000000\n10 64 NtConnectPort wait id=1\n11 52 NtListenPort 00000000 msg=000018000a0000003c000000400000000100000000000000\n12 52 NtAcceptConnectPort 00000000 h=8\n13 52 NtCompleteConnectPort 00000000\n13 *64 NtConnectPort 00000000 h=4 max=256 info=\n14 64 NtSetInformationProcess 00000000\n15 44 NtCreatePort 00000000 h=4\n16 44 NtCreateProcess 00000000 h=8 thread=12\n17 44 NtSetInformationProcess 00000000\n18 52 NtReplyWaitReceivePort wait\n19 64 raise wait id=2\n20 44 raise wait id=1\n21 58 raise wait id=1\n22 24 NtReplyWaitReceivePort 00000000 ctx=00000000 msg=08002000080000003c000000400000000200000000000000050000c001000000\n23 ~24 died 00000000\n23 *52 NtReplyWaitReceivePort 00000000 ctx=00000005 msg=08002000070000003c000000400000000300000000000000050000c002000000\n23 ~44 died c0000094\n23 *58 raise 00000000\n24 58 NtCreatePort 00000000 h=4\n25 52 NtReplyWaitReceivePort wait\n25 ~64 died c0000005\n25 *52 NtReplyWaitReceivePort 00000000 ctx=00000005 msg=08002000050000003c0000004000000001000000000000004000000001000000\n26 58 raise 00000000\n27 ~58 died c0000005\n28 52 NtClose 00000000\nend 28 33 3\n"
