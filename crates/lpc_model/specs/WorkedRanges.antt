-- Worked scripts of ranges that requests describe, with their transcripts. They were written by hand beside the rules, and
-- follow from the definitions by computing alone.
use Rattle.std.specs.Prelude.{◌≡◌, codes}
use Rattle.lpc_model.specs.Transcript.{transcript}

pub record WorkedRanges : Type 0 where
  -- A server reads and writes its client's bytes in place, through the ranges that the client's request describes.
  pub bytes_of_a_client : transcript (codes "dir \\Windows\nboot 20 24\nboot 32 36\n24 NtCreatePort \\Windows\\ApiPort\n36 NtConnectPort \\Windows\\ApiPort - - -\n24 NtListenPort 4\n24 NtAcceptConnectPort 7 r:32.36.1: accept -\n24 NtCompleteConnectPort 8\n36 NtCreateSection 4096 4\n36 NtMapViewOfSection 8 0 4096 4\n36 NtMapViewOfSection 8 0 4096 2\n36 NtWriteVirtualMemory 0x10000 68656c6c6f\n36 NtRequestWaitReplyPort 4 m:14002c0000001800000000000000000000000000000000000200000000000100050000000000020005000000\n24 NtReplyWaitReceivePort 4\n24 NtReadRequestData 4 r:32.36.2: 0 5\n24 NtReadRequestData 4 r:32.36.2: 0 6\n24 NtWriteRequestData 4 r:32.36.2: 0 48454c4c4f\n24 NtWriteRequestData 4 r:32.36.2: 1 48\n24 NtReadRequestData 4 r:32.36.2: 2 1\n24 NtReplyWaitReceivePort 4 r:32.36.2:\n36 NtReadVirtualMemory 0x20000 5\n") ≡ codes "1 - dir 00000000\n2 - boot 00000000\n3 - boot 00000000\n4 24 NtCreatePort 00000000 h=4\n5 36 NtConnectPort wait id=1\n6 24 NtListenPort 00000000 msg=000018000a00000020000000240000000100000000000000\n7 24 NtAcceptConnectPort 00000000 h=8\n8 24 NtCompleteConnectPort 00000000\n8 *36 NtConnectPort 00000000 h=4 max=256 info=\n9 36 NtCreateSection 00000000 h=8\n10 36 NtMapViewOfSection 00000000 base=00010000 size=4096\n11 36 NtMapViewOfSection 00000000 base=00020000 size=4096\n12 36 NtWriteVirtualMemory 00000000\n13 36 NtRequestWaitReplyPort wait id=2\n14 24 NtReplyWaitReceivePort 00000000 ctx=00000007 msg=14002c0001001800200000002400000002000000000000000200000000000100050000000000020005000000\n15 24 NtReadRequestData 00000000 data=68656c6c6f\n16 24 NtReadRequestData c000000d\n17 24 NtWriteRequestData 00000000\n18 24 NtWriteRequestData c0000005\n19 24 NtReadRequestData c000000d\n20 24 NtReplyWaitReceivePort wait\n20 *36 NtRequestWaitReplyPort 00000000 msg=000018000200000020000000240000000200000000000000\n21 36 NtReadVirtualMemory 00000000 data=48454c4c4f\nend 21 23 8\n"
  -- What a range is refused for, in the order of the tests; the ranges are those of the request, as long as it waits.
  pub refusals_of_ranges : transcript (codes "boot 20 24\nthread 28 20\n24 NtCreatePort -\n24 NtCreateSection 8192 4\n24 NtMapViewOfSection 8 0 0 4\n24 NtWriteVirtualMemory 0x10ffe 01020304\n24 NtRequestWaitReplyPort 4 m:1c003400000018000000000000000000000000000000000003000000fe0f010004000000fe1f0100040000000000010088130000\n28 NtReadRequestData 4 r:20.24.1: 0 4\n28 NtReplyWaitReceivePort 4\n28 NtReadRequestData 8 r:20.24.1: 0 4\n28 NtReadRequestData 12 r:20.24.1: 0 4\n28 NtReadRequestData 4 m:00 0 4\n28 NtReadRequestData 4 r:20.99.1: 0 4\n28 NtReadRequestData 4 r:20.24.2: 9 0\n28 NtReadRequestData 4 r:20.24.1: 3 1\n28 NtReadRequestData 4 r:20.24.1: 0 0\n28 NtReadRequestData 4 r:20.24.1: 0 5\n28 NtReadRequestData 4 r:20.24.1: 2 4097\n28 NtReadRequestData 4 r:20.24.1: 1 2\n28 NtReadRequestData 4 r:20.24.1: 1 3\n28 NtReadRequestData 4 r:20.24.1: 0 4\n28 NtWriteRequestData 4 r:20.24.1: 0 0102030405\n28 NtWriteRequestData 4 r:20.24.1: 0 aabb\n28 NtReadRequestData 4 r:20.24.1: 0 3\n28 NtUnmapViewOfSection 0x10000\n28 NtReadRequestData 4 r:20.24.1: 0 1\n28 NtReplyPort 4 r:20.24.1:\n28 NtReadRequestData 4 r:20.24.1: 0 1\n24 NtRequestWaitReplyPort 4 d:\n28 NtReplyWaitReceivePort 4\n28 NtReadRequestData 4 r:20.24.2: 0 1\n") ≡ codes "1 - boot 00000000\n2 - thread 00000000\n3 24 NtCreatePort 00000000 h=4\n4 24 NtCreateSection 00000000 h=8\n5 24 NtMapViewOfSection 00000000 base=00010000 size=8192\n6 24 NtWriteVirtualMemory 00000000\n7 24 NtRequestWaitReplyPort wait id=1\n8 28 NtReadRequestData c000021f\n9 28 NtReplyWaitReceivePort 00000000 ctx=00000000 msg=1c003400010018001400000018000000010000000000000003000000fe0f010004000000fe1f0100040000000000010088130000\n10 28 NtReadRequestData c0000024\n11 28 NtReadRequestData c0000008\n12 28 NtReadRequestData c000000d\n13 28 NtReadRequestData c000000b\n14 28 NtReadRequestData c000021f\n15 28 NtReadRequestData c000000d\n16 28 NtReadRequestData c000000d\n17 28 NtReadRequestData c000000d\n18 28 NtReadRequestData c000000d\n19 28 NtReadRequestData 00000000 data=0000\n20 28 NtReadRequestData c0000005\n21 28 NtReadRequestData 00000000 data=01020304\n22 28 NtWriteRequestData c000000d\n23 28 NtWriteRequestData 00000000\n24 28 NtReadRequestData 00000000 data=aabb03\n25 28 NtUnmapViewOfSection 00000000\n26 28 NtReadRequestData c0000005\n27 28 NtReplyPort 00000000\n27 *24 NtRequestWaitReplyPort 00000000 msg=000018000200000014000000180000000100000000000000\n28 28 NtReadRequestData c000021f\n29 24 NtRequestWaitReplyPort wait id=2\n30 28 NtReplyWaitReceivePort 00000000 ctx=00000000 msg=000018000100000014000000180000000200000000000000\n31 28 NtReadRequestData c000000d\nend 31 32 5\n"
  -- A request describes data in its client's view, which the server reads and writes until the reply.
  pub a_request_that_describes_data : transcript (codes "# A request describes data in its client's view: the server reads them there, and writes its answer in their place.\ndir \\Windows\nboot 20 24\nboot 32 36\n24 NtCreatePort \\Windows\\ApiPort\n36 NtConnectPort \\Windows\\ApiPort - - -\n24 NtListenPort 4\n24 NtAcceptConnectPort 7 r:32.36.1: accept -\n24 NtCompleteConnectPort 8\n# The client has two views of its data, the second one to be read alone.\n36 NtCreateSection 4096 4\n36 NtMapViewOfSection 8 0 4096 4\n36 NtMapViewOfSection 8 0 4096 2\n36 NtWriteVirtualMemory 0x10000 68656c6c6f\n# DataSize 20, MessageSize 44, VirtualRangesOffset 24. The table: 2 entries, 00010000 with 5 bytes and 00020000 with 5.\n36 NtRequestWaitReplyPort 4 m:14002c0000001800000000000000000000000000000000000200000000000100050000000000020005000000\n24 NtReplyWaitReceivePort 4\n24 NtReadRequestData 4 r:32.36.2: 0 5\n24 NtReadRequestData 4 r:32.36.2: 0 6\n24 NtReadRequestData 4 r:32.36.2: 2 1\n24 NtReadVirtualMemory 0x10000 5\n24 NtWriteRequestData 4 r:32.36.2: 0 48454c4c4f\n24 NtWriteRequestData 4 r:32.36.2: 1 48\n24 NtReadRequestData 8 r:32.36.2: 1 5\n24 NtReplyPort 8 r:32.36.2:\n24 NtReadRequestData 4 r:32.36.2: 0 5\n36 NtReadVirtualMemory 0x20000 5\n") ≡ codes "2 - dir 00000000\n3 - boot 00000000\n4 - boot 00000000\n5 24 NtCreatePort 00000000 h=4\n6 36 NtConnectPort wait id=1\n7 24 NtListenPort 00000000 msg=000018000a00000020000000240000000100000000000000\n8 24 NtAcceptConnectPort 00000000 h=8\n9 24 NtCompleteConnectPort 00000000\n9 *36 NtConnectPort 00000000 h=4 max=256 info=\n11 36 NtCreateSection 00000000 h=8\n12 36 NtMapViewOfSection 00000000 base=00010000 size=4096\n13 36 NtMapViewOfSection 00000000 base=00020000 size=4096\n14 36 NtWriteVirtualMemory 00000000\n16 36 NtRequestWaitReplyPort wait id=2\n17 24 NtReplyWaitReceivePort 00000000 ctx=00000007 msg=14002c0001001800200000002400000002000000000000000200000000000100050000000000020005000000\n18 24 NtReadRequestData 00000000 data=68656c6c6f\n19 24 NtReadRequestData c000000d\n20 24 NtReadRequestData c000000d\n21 24 NtReadVirtualMemory c0000005\n22 24 NtWriteRequestData 00000000\n23 24 NtWriteRequestData c0000005\n24 24 NtReadRequestData 00000000 data=48454c4c4f\n25 24 NtReplyPort 00000000\n25 *36 NtRequestWaitReplyPort 00000000 msg=000018000200000020000000240000000200000000000000\n26 24 NtReadRequestData c000021f\n27 36 NtReadVirtualMemory 00000000 data=48454c4c4f\nend 27 26 8\n"
